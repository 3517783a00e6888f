use Rattle.std.proofs.Common.{◌≡◌, ◌+◌, ◌≤◌, min, max, drop, get_or, sym, ap, ◌∙◌, arith, below_more}
use Rattle.std.specs.Prelude.{fold}
use Rattle.std.proofs.lemmas.List.{at_drop_more}
use Rattle.cascade_formats.proofs.references.extremes.Goals as goal

pub loop-value-preserved : goal.loop-value-preserved
loop-value-preserved c =
    let values = c.args.values.now in
    let place = c.loop-value.value-index in
    let was = c.loop-value.invariant in
    let greatest : c.max-greatest.result ≡ max c.loop-value.greatest (get_or values place 0) = c.max-greatest.ensures in
    record {
      least = ap (λ m. fold min m (drop (place + 1) values)) c.min-least.ensures ∙ sym (at_drop_more (fold min c.loop-value.least) values place 0 (omega arith)) ∙ was.least;
      each = below_more _ _ (λ k below. let e = was.each k below in omega arith) (omega arith);
      bound = λ limit all.
          let before : c.loop-value.greatest ≤ limit = was.bound limit all in
          let here : get_or values place 0 ≤ limit = all place (omega arith) in
          omega arith;
    }
