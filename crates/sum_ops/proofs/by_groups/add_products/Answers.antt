use Rattle.std.proofs.Common.{◌≡◌, ℕ, ◌+◌, ◌<◌, ◌∷◌, [], List, length, take, get_or, set, ap, ap₂, ◌∙◌, sym, arith}
use Rattle.std.proofs.lemmas.List.{take_more, take_all, length-take-le}
use Rattle.sum_ops.specs.Cells.{cell_of, cells_after}
use Rattle.definitions_operators.specs.Groups.{products_of}
use Rattle.sum_ops.proofs.ZipLaws.{length-products_of, products_of-at}
use Rattle.sum_ops.proofs.CellLaws.{cells_after-none, cells_after-one, cells_after-append, length-cells_after}
use Rattle.sum_ops.proofs.by_groups.add_products.Goals as goal

pub loop-row-init : goal.loop-row-init
loop-row-init c = sym (cells_after-none c.args.sums.now c.tell_cells.ensures)

pub add-requires : goal.add-requires
add-requires c =
    let i = c.loop-row.row in
    let long : length c.loop-row.sums ≡ length c.args.sums.now = ap length c.loop-row.invariant ∙ length-cells_after c.args.sums.now (take i (products_of c.args.first.now c.args.second.now)) (take i c.args.ids.now) in
    let h : get_or c.args.ids.now i 0 < length c.args.sums.now = c.requires.groups i 0 (omega arith) in
    omega arith

pub loop-row-preserved : goal.loop-row-preserved
loop-row-preserved c =
    let i = c.loop-row.row in
    let firsts = c.args.first.now in
    let seconds = c.args.second.now in
    let values : List ℕ = products_of firsts seconds in
    let even : length firsts ≡ length seconds = c.requires.same ∙ sym c.requires.second_same in
    let total : length values ≡ length seconds = length-products_of firsts seconds even in
    let ids = c.args.ids.now in
    let start = c.args.sums.now in
    let cells = c.loop-row.sums in
    let value = get_or values i 0 in
    let id = get_or ids i 0 in
    let long : length cells ≡ length start = ap length c.loop-row.invariant ∙ length-cells_after start (take i values) (take i ids) in
    let within : id < length start = c.requires.groups i 0 (omega arith) in
    let inside : id < length cells = omega arith in
    let same : length (take i values) ≡ length (take i ids) =
    length-take-le i values (omega arith) ∙ sym (length-take-le i ids (omega arith)) in
    c.add.ensures
    ∙ ap (λ (n : ℕ). set cells id (cell_of (get_or cells id 0 + n))) (sym (products_of-at firsts seconds i even (omega arith)))
    ∙ sym (cells_after-one cells value id c.tell_cells-in-loop-row.ensures inside)
    ∙ ap (λ (l : List ℕ). cells_after l (value ∷ []) (id ∷ [])) c.loop-row.invariant
    ∙ cells_after-append start (take i values) (take i ids) (value ∷ []) (id ∷ []) same
    ∙ ap₂ (λ (vs is : List ℕ). cells_after start vs is) (sym (take_more values i 0 (omega arith))) (sym (take_more ids i 0 (omega arith)))

pub returns : goal.returns
returns c =
    let ids = c.args.ids.now in
    let firsts = c.args.first.now in
    let seconds = c.args.second.now in
    let values : List ℕ = products_of firsts seconds in
    let total : length values ≡ length seconds = length-products_of firsts seconds (c.requires.same ∙ sym c.requires.second_same) in
    c.loop-row.invariant ∙ ap₂ (λ (vs is : List ℕ). cells_after c.args.sums.now vs is) (take_all c.loop-row.row values (omega arith)) (take_all c.loop-row.row ids (omega arith))
