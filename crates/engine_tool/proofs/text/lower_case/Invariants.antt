use Rattle.std.proofs.Common.{◌≡◌, true, take}
use Rattle.std.specs.List.{list_all}
use Rattle.std.specs.Str.{str_to_ascii_lowercase}
use Rattle.stream_core.specs.Names.{is_name_byte}
use Rattle.engine_tool.proofs.text.lower_case.Given as goal

-- the bytes so far are those of a name
abbrev pub invariant-loop-byte : goal.invariant-loop-byte
invariant-loop-byte l = record {
  passed : list_all is_name_byte (str_to_ascii_lowercase (take l.byte-index l.word)) ≡ true;
  copied : l.lower.bytes ≡ str_to_ascii_lowercase (take l.byte-index l.word);
}
