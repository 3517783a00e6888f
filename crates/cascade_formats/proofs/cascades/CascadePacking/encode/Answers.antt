use Rattle.std.proofs.Common.{rules, ◌≤◌, ◌++◌, length, drop, refl, ap, ◌∙◌, arith}
use Rattle.definitions_blocks.specs.Words.{word_bytes}
use Rattle.definitions_blocks.proofs.WordLaws.{length-word_bytes}
use Rattle.cascade_formats.proofs.CascadeParts.{cascade_from}
use Rattle.cascade_formats.proofs.Written.{written_after, cascade_long}
use Rattle.cascade_formats.proofs.cascades.CascadePacking.encode.Goals as goal

pub put_word-requires : goal.put_word-requires
put_word-requires g c = cascade_long g.T.Transform.base_of g.T.Transform.differences_of (g.P.Packing.encodes c.args.param) c.args.full.now c.requires.encoded.0 c.args.into.now c.requires.encoded.1 c.requires.encoded.2

pub slice_bounds-encode-count : goal.slice_bounds-encode-count
slice_bounds-encode-count g c =
    let long = cascade_long g.T.Transform.base_of g.T.Transform.differences_of (g.P.Packing.encodes c.args.param) c.args.full.now c.requires.encoded.0 c.args.into.now c.requires.encoded.1 c.requires.encoded.2 in
    omega arith

pub slice_bounds-encode-start : goal.slice_bounds-encode-start
slice_bounds-encode-start g c =
    let long = cascade_long g.T.Transform.base_of g.T.Transform.differences_of (g.P.Packing.encodes c.args.param) c.args.full.now c.requires.encoded.0 c.args.into.now c.requires.encoded.1 c.requires.encoded.2 in
    let same : 8 ≤ length c.put_word.new.into = omega arith in
    search rules

pub returns : goal.returns
returns g c =
    let is = c.requires.encoded.1 in
    cascade_from g.T.Transform.base_of g.T.Transform.differences_of (g.P.Packing.encodes c.args.param) (g.T.Transform.base_of c.args.full.now) c.args.full.now c.split-base.new.into _ c.encode.new.into
    (record { full = is.full; base_is = refl; differences_are = c.split-base.ensures.differences }) is.word c.encode.ensures
    (written_after c.put_word.new.into (word_bytes (g.T.Transform.base_of c.args.full.now)) c.encode.new.into (drop 8 c.args.into.now) (length-word_bytes (g.T.Transform.base_of c.args.full.now))
    (c.put_word.ensures ∙ ap (λ n. word_bytes n ++ drop 8 c.args.into.now) c.split-base.ensures.base))
