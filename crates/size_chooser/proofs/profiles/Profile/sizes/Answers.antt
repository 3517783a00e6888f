use Rattle.std.proofs.Common.{◌≡◌, ℕ, List, length, sym, ap, ◌∙◌, subst, rules}
use Rattle.definitions_blocks.specs.Packed.{IsWidth}
use Rattle.definitions_columns.specs.Tails.{packed_len}
use Rattle.size_chooser.specs.FileSizes.{sizes_of}
use Rattle.size_chooser.specs.Profiles.{Kept, kept, IsProfileOf}
use Rattle.size_chooser.proofs.ProfileLemmas.{kept_sizes, sizes_are}
use Rattle.size_chooser.proofs.LeastLemmas.{sizes_of-lengths}
use Rattle.size_chooser.proofs.profiles.Profile.sizes.Goals as goal

pub returns : goal.returns
returns c =
    let tally = c.self.inside.tally in
    let own : Kept = kept tally.count tally.block tally.meter in
    let waiting : c.as_slice-waiting.result.now ≡ tally.block = c.as_slice-waiting.ensures.values in
    let all : (values : List ℕ) → IsProfileOf c.args.self.now values → kept_sizes own c.from.result c.packed_len.result c.packed_len-2.result ≡ sizes_of values = λ values is.
    sizes_are own values c.from.result c.packed_len.result c.width_of_values.result c.packed_len-2.result
    (subst (λ k. IsProfileOf k values) (sym c.self.view_is) is) (search rules)
    (subst (IsWidth c.width_of_values.result) waiting c.width_of_values.ensures.least) c.width_of_values.ensures.narrow
    (c.packed_len.ensures.size ∙ ap (λ (l : List ℕ). packed_len (length l) 64) waiting)
    (c.packed_len-2.ensures.size ∙ ap (λ (l : List ℕ). packed_len (length l) c.width_of_values.result) waiting) in
    record { sizes = all; lengths = λ values is. sizes_of-lengths values _ (all values is) }
