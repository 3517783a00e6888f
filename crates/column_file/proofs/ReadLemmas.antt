-- How a reader goes on by a block.
use Rattle.std.proofs.Common.{◌≡◌, ℕ, ◌+◌, ◌/◌, ◌≤◌, List, [], ◌∷◌, ◌++◌, length, take, drop, get_or, refl, sym, ap, ◌∙◌, subst, inl, inr, arith, length-append, append_assoc}
use Rattle.std.proofs.lemmas.Bool.{cases_lt}
use Rattle.std.proofs.lemmas.List.{take-append-drop, drop-drop, length-take, get_or_append_left, get_or_push}
use Rattle.definitions_blocks.specs.Blocks.{block_values}
use Rattle.definitions_blocks.specs.Formats.{Format, BlockOf}
use Rattle.definitions_columns.specs.ColumnFiles.{Version, Piece, piece_values, piece_bytes, starts_from, first_start, static_width_of, next_width}
use Rattle.definitions_columns.specs.FileFaults.{StartsAt}
use Rattle.definitions_blocks.proofs.BlockLaws.{BlockOf-full}
use Rattle.definitions_columns.proofs.ColumnFileLaws.{length-piece_values, length-starts_from}
use Rattle.definitions_columns.proofs.PieceLaws.{ArePieces-push, piece_values-push, piece_bytes-push, starts_from-push}
use Rattle.definitions_columns.proofs.WidthLaws.{static_width_of-empty, static_width_of-push}
use Rattle.definitions_columns.proofs.OpeningLaws.{pieces_words}
use Rattle.column_file.specs.Reading.{ReadSo}

-- nothing was read
pub read_none : (version : Version) (format : Format) (width count place : ℕ) (bytes : List ℕ) → place ≡ first_start version format (count / block_values) → ReadSo version format width count 0 place 0 bytes
read_none version format width count place bytes begins = record {
  pieces = [];
  blocks = tt;
  many = refl;
  place_is = omega (arith, begins);
  blocks_are = ap (λ n. drop n bytes) (sym begins);
  entries = λ block less. absurd (omega (arith, less));
  widest_is = sym (static_width_of-empty format);
}

-- one block more, where the directory says
pub read_more : (version : Version) (format : Format) (width count number place widest len wider : ℕ) (bytes values : List ℕ) → ReadSo version format width count number place widest bytes
    → StartsAt version format bytes number place → BlockOf format width values (take len (drop place bytes)) → len ≤ length (drop place bytes) → wider ≡ next_width format widest values
    → ReadSo version format width count (number + 1) (place + len) wider bytes
read_more version format width count number place widest len wider bytes values so named encoded inside widens =
    let start = first_start version format (count / block_values) in
    let encoding = take len (drop place bytes) in
    let piece : Piece = record { values = values; encoding = encoding } in
    let full = BlockOf-full format width values encoding encoded in
    let size : length encoding ≡ len = omega (arith, length-take len (drop place bytes)) in
    let rest : encoding ++ drop (place + len) bytes ≡ drop place bytes = ap (λ (l : List ℕ). encoding ++ l) (sym (drop-drop len place bytes)) ∙ take-append-drop len (drop place bytes) in
    let here : place ≡ start + length (piece_bytes so.pieces) = so.place_is in
    let began : starts_from start (so.pieces ++ piece ∷ []) ≡ starts_from start so.pieces ++ place ∷ [] =
    starts_from-push start so.pieces piece ∙ ap (λ n. starts_from start so.pieces ++ n ∷ []) (sym here) in
    let so_many : length (starts_from start so.pieces) ≡ length so.pieces = length-starts_from start so.pieces in
    let Entry : List ℕ → ℕ → Type 0 = λ starts block. StartsAt version format bytes block (get_or starts block 0) in
    record {
      pieces = so.pieces ++ piece ∷ [];
      blocks = ArePieces-push format width so.pieces piece so.blocks encoded;
      many = omega (arith, length-append so.pieces (piece ∷ []), so.many);
      place_is = omega (arith, here, size, ap length (piece_bytes-push so.pieces piece), length-append (piece_bytes so.pieces) encoding);
      blocks_are =
          so.blocks_are ∙ ap (λ (l : List ℕ). piece_bytes so.pieces ++ l) (sym rest) ∙ sym (append_assoc (piece_bytes so.pieces) encoding (drop (place + len) bytes))
          ∙ ap (λ (l : List ℕ). l ++ drop (place + len) bytes) (sym (piece_bytes-push so.pieces piece));
      entries = λ block less. subst (λ starts. Entry starts block) (sym began) (elim (cases_lt block (length so.pieces)) [
        | inl before ↦ subst (StartsAt version format bytes block) (sym (get_or_append_left (starts_from start so.pieces) (place ∷ []) 0 block (omega (arith, before, so_many)))) (so.entries block before)
        | inr after ↦
            let last : block ≡ number = omega (arith, less, after, length-append so.pieces (piece ∷ []), so.many) in
            subst (Entry (starts_from start so.pieces ++ place ∷ [])) (sym last)
            (subst (StartsAt version format bytes number) (sym (get_or_push (starts_from start so.pieces) place 0 number (omega (arith, so_many, so.many)))) named)
      ]);
      widest_is =
          widens ∙ ap (λ n. next_width format n values) so.widest_is
          ∙ sym (static_width_of-push format (piece_values so.pieces) values (omega (arith, length-piece_values format width so.pieces so.blocks)) full.whole (pieces_words format width so.pieces so.blocks) full.words)
          ∙ ap (static_width_of format) (sym (piece_values-push so.pieces piece));
    }
