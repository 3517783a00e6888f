use Rattle.std.proofs.Common.{◌∙◌, ap, Bool, true, cond, Bor, List, ℕ}
use Rattle.std.proofs.lemmas.Map.Text.{is_eq-slice_cmp}
use Rattle.catalog_core.specs.SeenNames.{is_seen}
use Rattle.catalog_core.proofs.names.see.Goals as goal

pub returns-clause-adds : goal.returns-clause-adds
returns-clause-adds c = λ other.
    let key : Bor (List ℕ) = record { ref_ptr = (0, 0); now = other } in
    c.in_ok-added.ensures.updates.0 key ∙ ap (λ (b : Bool). cond b true (is_seen c.args.seen.now other)) (is_eq-slice_cmp c.args.name.now other)
