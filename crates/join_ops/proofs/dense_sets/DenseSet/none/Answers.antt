use Rattle.std.proofs.Common.{◌∙◌, ap, ap₂, List, ℕ, length}
use Rattle.std.proofs.lemmas.List.{length-replicate}
use Rattle.join_ops.specs.KeySets.{marked, dense_keys}
use Rattle.join_ops.proofs.DenseLaws.{marked-zeros}
use Rattle.join_ops.proofs.dense_sets.DenseSet.none.Goals as goal

pub returns : goal.returns
returns c =
    ap (λ (items : List ℕ). dense_keys c.args.low (length items) (marked c.args.low items)) c.in_ok-zero_bytes.ensures
    ∙ ap₂ (λ (n : ℕ) (keys : List ℕ). dense_keys c.args.low n keys) (length-replicate {A = ℕ} c.args.len 0) (marked-zeros c.args.low c.args.len)
