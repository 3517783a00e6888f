use Rattle.std.proofs.Common.{◌≡◌, ℕ, ◌+◌, ◌*◌, ◌<◌, ◌∷◌, [], List, length, take, get_or, set, ap, ap₂, ◌∙◌, sym, arith}
use Rattle.std.proofs.lemmas.List.{take_more, length-take-le}
use Rattle.sum_ops.specs.Cells.{cell_of, cells_after}
use Rattle.sum_ops.proofs.CellLaws.{cells_after-none, cells_after-one, cells_after-append, length-cells_after}
use Rattle.sum_ops.proofs.by_groups.add_rows.Goals as goal

pub loop-row-init : goal.loop-row-init
loop-row-init c = sym (cells_after-none c.args.sums.now c.tell_cells.ensures)

pub add-requires : goal.add-requires
add-requires c =
    let i = c.loop-row.row in
    let long : length c.loop-row.sums ≡ length c.args.sums.now = ap length c.loop-row.invariant ∙ length-cells_after c.args.sums.now (take i c.args.values.now) (take i c.args.ids.now) in
    let h : get_or c.args.ids.now i 0 < length c.args.sums.now = c.requires.groups i 0 (omega arith) in
    omega arith

pub loop-row-preserved : goal.loop-row-preserved
loop-row-preserved c =
    let i = c.loop-row.row in
    let values = c.args.values.now in
    let ids = c.args.ids.now in
    let start = c.args.sums.now in
    let cells = c.loop-row.sums in
    let value = get_or values i 0 in
    let id = get_or ids i 0 in
    let long : length cells ≡ length start = ap length c.loop-row.invariant ∙ length-cells_after start (take i values) (take i ids) in
    let within : id < length start = c.requires.groups i 0 (omega arith) in
    let inside : id < length cells = omega arith in
    let same : length (take i values) ≡ length (take i ids) =
    length-take-le i values (omega arith) ∙ sym (length-take-le i ids (omega arith)) in
    c.add.ensures
    ∙ ap (λ (n : ℕ). set cells id (cell_of (get_or cells id 0 + n))) (times_one value)
    ∙ sym (cells_after-one cells value id c.tell_cells-in-loop-row.ensures inside)
    ∙ ap (λ (l : List ℕ). cells_after l (value ∷ []) (id ∷ [])) c.loop-row.invariant
    ∙ cells_after-append start (take i values) (take i ids) (value ∷ []) (id ∷ []) same
    ∙ ap₂ (λ (vs is : List ℕ). cells_after start vs is) (sym (take_more values i 0 (omega arith))) (sym (take_more ids i 0 (omega arith)))
  where
    times_one : (n : ℕ) → n * 1 ≡ n
    times_one n = omega arith
