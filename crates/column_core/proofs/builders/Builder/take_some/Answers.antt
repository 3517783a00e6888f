use Rattle.std.proofs.Common.{◌≡◌, ◌≤◌, ◌+◌, ℕ, List, ◌++◌, [], length, take, drop, true, sym, ap, ◌∙◌, subst, arith, length-append, append_assoc}
use Rattle.std.proofs.lemmas.Bool.{false≢true}
use Rattle.std.proofs.lemmas.List.{append-nil, length-take, take-append-drop}
use Rattle.definitions_blocks.specs.Blocks.{block_values}
use Rattle.definitions_blocks.specs.Columns.{max_rows}
use Rattle.definitions_columns.specs.ColumnFiles.{fits_columns}
use Rattle.definitions_columns.specs.Sizes.{is_within_room}
use Rattle.definitions_columns.proofs.SizeLaws.{IsInRoom, in_room, is_within_room-front}
use Rattle.block_core.specs.Formats.{format_of}
use Rattle.column_core.specs.Columns.{Encoding, encoding_of}
use Rattle.definitions_columns.proofs.WidthLaws.{fits_columns-front}
use Rattle.column_core.specs.Scopes.{IsBuilding}
use Rattle.column_core.proofs.builders.Builder.take_some.Goals as goal
use Rattle.column_core.proofs.builders.Builder.take_some.Goals.{After-append, then-as_slice-eq-BLOCK_LEN+in_ok-flush, else-as_slice-eq-BLOCK_LEN}

-- what was encoded and what waits, of the list before
record Held (encoded : Encoding) (block : List ℕ) (before : Encoding) : Type 0 where
  building : IsBuilding encoded.format encoded.width encoded.values block
  same : encoding_of encoded.format encoded.width encoded.reserve (encoded.values ++ block) ≡ before

-- after a full block was encoded
flushed : (old new before : Encoding) (block empty : List ℕ) → IsBuilding old.format old.width old.values block → encoding_of old.format old.width old.reserve (old.values ++ block) ≡ before
    → length block ≡ block_values → new ≡ encoding_of old.format old.width old.reserve (old.values ++ block) → empty ≡ [] → Held new empty before
flushed old new before block empty is same full made none =
    let all = old.values ++ block in
    let nothing : all ++ empty ≡ all = ap (λ (l : List ℕ). all ++ l) none ∙ append-nil all in
    subst (λ (e : Encoding). Held e empty before) (sym made)
    (record {
      building = record {
        lawful = is.lawful;
        whole = omega (arith, is.whole, length-append old.values block);
        short = omega (arith, ap length none);
        few = omega (arith, is.few, ap length nothing);
        fits = ap (fits_columns (format_of old.format) old.width) nothing ∙ is.fits;
      };
      same = ap (encoding_of old.format old.width old.reserve) nothing ∙ same;
    })

-- some values more in the block that waits
waiting : (encoded before : Encoding) (block values : List ℕ) (n : ℕ) → Held encoded block before → length before.values + length values ≤ max_rows
    → fits_columns (format_of before.format) before.width (before.values ++ values) ≡ true → length block + n ≤ block_values → IsBuilding encoded.format encoded.width encoded.values (block ++ take n values)
waiting encoded before block values n held few fits room =
    let all = encoded.values ++ block in
    let counted : length all + length values ≤ max_rows = subst (λ (e : Encoding). length e.values + length values ≤ max_rows) (sym held.same) few in
    let scoped : fits_columns (format_of encoded.format) encoded.width (all ++ values) ≡ true = subst (λ (e : Encoding). fits_columns (format_of e.format) e.width (e.values ++ values) ≡ true) (sym held.same) fits in
    let front = encoded.values ++ (block ++ take n values) in
    let split : front ++ drop n values ≡ all ++ values =
    ap (λ (l : List ℕ). l ++ drop n values) (sym (append_assoc encoded.values block (take n values))) ∙ append_assoc all (take n values) (drop n values) ∙ ap (λ (l : List ℕ). all ++ l) (take-append-drop n values) in
    record {
      lawful = held.building.lawful;
      whole = held.building.whole;
      short = omega (arith, length-append block (take n values), length-take n values);
      few = omega (arith, length-append encoded.values (block ++ take n values), length-append block (take n values), length-append encoded.values block, length-take n values);
      fits = fits_columns-front (format_of encoded.format) encoded.width front (drop n values) (ap (fits_columns (format_of encoded.format) encoded.width) split ∙ scoped);
    }

held : (c : After-append) → Held c.if-as_slice-eq-BLOCK_LEN.self-inside.encoded c.if-as_slice-eq-BLOCK_LEN.self-inside.block c.args.self.now
held c =
    elim c.if-as_slice-eq-BLOCK_LEN.branch [
      | then-as_slice-eq-BLOCK_LEN+in_ok-flush w ↦
          let full : length c.self.inside.block ≡ block_values = omega (arith, ap length c.as_slice.ensures.values, w.if-as_slice-eq-BLOCK_LEN.true) in
          rw w.self-inside-is (flushed c.self.inside.encoded w.flush.new.encoded c.args.self.now c.self.inside.block w.flush.new.block c.self.invariant c.self.view_is full w.in_ok-flush.ensures.ok w.in_ok-flush.ensures.emptied)
      | else-as_slice-eq-BLOCK_LEN w ↦ rw w.self-inside-is (record { building = c.self.invariant; same = c.self.view_is })
    ]

pub invariant_of-self-2 : goal.invariant_of-self-2
invariant_of-self-2 c =
    let i = c.if-as_slice-eq-BLOCK_LEN.self-inside in
    let n = c.min-count.result in
    let block : c.append.new.self ≡ i.block ++ take n c.args.values.now = c.append.ensures ∙ ap (λ (l : List ℕ). i.block ++ l) c.first_of.ensures in
    let room : length i.block + n ≤ block_values = omega (arith, ap length c.as_slice-2.ensures.values, c.as_slice-2.ensures.short) in
    subst (IsBuilding i.encoded.format i.encoded.width i.encoded.values) (sym block) (waiting i.encoded c.args.self.now i.block c.args.values.now n (held c) c.requires.few c.requires.in_scope room)

pub returns-in_err-flush-clause-sure : goal.returns-in_err-flush-clause-sure
returns-in_err-flush-clause-sure c =
    let e = c.self.inside.encoded in
    let all = e.values ++ c.self.inside.block in
    rw (← c.self.view_is) (λ (holds : is_within_room (format_of e.format) e.width e.reserve.bytes e.reserve.count (all ++ c.args.values.now) ≡ true).
    let room : IsInRoom (format_of e.format) e.width e.reserve.bytes e.reserve.count all =
    in_room (format_of e.format) e.width e.reserve.bytes e.reserve.count all (is_within_room-front (format_of e.format) e.width e.reserve.bytes e.reserve.count all c.args.values.now holds) in
    absurd (false≢true (c.in_err-flush.ensures.sure room.fits room.few)))
