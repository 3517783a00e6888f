use Rattle.std.proofs.Common.{◌≡◌, ℕ, List, map, sym, refl, subst}
use Rattle.std.proofs.lemmas.Iterator.Consumers.{YieldsList-from_first, map_from_collect}
use Rattle.std.proofs.lemmas.Result.{IfOk-weaker}
use Rattle.definitions_blocks.specs.Runs.{AreRunsOf, IsRunsBlock}
use Rattle.run_formats.specs.Cells.{run_of, runs_left}
use Rattle.tests_blocks.proofs.runs.pairs_of.Goals as goal

pub returns : goal.returns
returns c =
    let left = runs_left c.new.result in
    IfOk-weaker c.collect.result (λ pairs. map run_of pairs.items ≡ left)
    (λ pairs. (values : List ℕ) → IsRunsBlock values c.args.bytes.now → AreRunsOf (map run_of pairs.items) values)
    (λ pairs is values block. subst (λ runs. AreRunsOf runs values) (sym is) (c.new.ensures values block))
    (map_from_collect c.collect.result c.collect.ensures.ran (YieldsList-from_first run_of runs_left left refl))
