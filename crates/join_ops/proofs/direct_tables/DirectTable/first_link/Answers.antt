use Rattle.std.proofs.Common.{◌≡◌, ◌∙◌, ◌+◌, ◌-◌, ◌%◌, ◌^◌, ◌<◌, List, ℕ, ap, sym, subst, arith, length}
use Rattle.std.specs.Prelude.{slice_index, min}
use Rattle.std.proofs.lemmas.List.{get_or_read}
use Rattle.join_ops.specs.KeyMaps.{IsNextLink}
use Rattle.join_ops.proofs.DirectLaws.{direct-look}
use Rattle.join_ops.proofs.direct_tables.DirectTable.first_link.Goals as goal

pub returns : goal.returns
returns c =
    let i = c.self.inside in
    let place = min ((c.args.key + (2 ^ 64 - i.low)) % 2 ^ 64) (length i.heads.items - 1) in
    let long : c.len-last.result ≡ length i.heads.items = c.len-last.ensures ∙ i.heads.ok.0 in
    let at : c.min.result ≡ place = c.min.ensures ∙ ap (λ (n : ℕ). min ((c.args.key + (2 ^ 64 - i.low)) % 2 ^ 64) (n - 1)) long in
    let within : c.min.result < length i.heads.items = omega (arith, c.self.invariant.some, at) in
    let read : c.index.result.now ≡ slice_index i.heads.items place = get_or_read i.heads.items c.min.result c.index.result.now within c.index.ensures 0 ∙ ap (slice_index i.heads.items) at in
    subst (λ (keys : List ℕ). IsNextLink keys c.args.key 0 c.index.result.now) c.self.view_is
    (subst (IsNextLink i.keys.items c.args.key 0) (sym read) (direct-look i.low i.heads.items i.keys.items i.next.items c.args.key c.ranges.key.fits c.self.invariant))
