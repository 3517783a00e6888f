use Rattle.std.proofs.Common.{◌++◌, ℕ, List, length, take, ap, ◌∙◌, arith}
use Rattle.std.proofs.lemmas.List.{length-drop}
use Rattle.block_core.proofs.PrefixLemmas.{more_of}
use Rattle.column_core.specs.Columns.{Encoding, encoding_of}
use Rattle.column_core.proofs.builders.BuilderEmit.extend.Goals as goal

pub loop-taken-preserved : goal.loop-taken-preserved
loop-taken-preserved c =
    let at = c.loop-taken.taken in
    let n = c.in_ok-taken.field-0 in
    let values = c.args.values.now in
    let old = c.args.self.now in
    record {
      within = omega (arith, c.in_ok-taken.ensures.within, ap length c.rest_from.ensures, length-drop at values);
      builder = c.in_ok-taken.ensures.ok
          ∙ ap (λ (e : Encoding). encoding_of e.format e.width e.reserve (e.values ++ take n c.rest_from.result.now)) c.loop-taken.invariant.builder
          ∙ ap (encoding_of old.format old.width old.reserve)
          (ap (λ (l : List ℕ). (old.values ++ take at values) ++ take n l) c.rest_from.ensures ∙ more_of at n old.values values);
    }
