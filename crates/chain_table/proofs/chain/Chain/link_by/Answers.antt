use Rattle.std.proofs.Common.{◌≡◌, ◌∙◌, ℕ, ◌++◌, List, length, take, drop, sym, ap, subst}
use Rattle.chain_table.specs.Buckets.{IsChained}
use Rattle.chain_table.proofs.ChainLaws.{IsChained-relinked, IsChained-rewritten, rewritten}
use Rattle.chain_table.proofs.chain.Chain.link_by.Goals as goal

pub invariant_of-self : goal.invariant_of-self
invariant_of-self c =
    let it = c.self.inside in
    let is = c.self.invariant.0 in
    let keys = it.keys.items in
    let mixer = c.args.mixer in
    let heads = it.heads.items in
    let cleared = c.clear.new.links in
    let linked = c.relink.new.heads in
    let older = c.relink.new.older in
    let clear_size : length cleared ≡ length heads = c.clear.ensures.size ∙ ap length c.as_mut_slice.ensures.value in
    let heads_len : it.heads.len ≡ length heads = it.heads.ok.0 in
    let stored : take it.heads.len (cleared ++ drop (length cleared) heads) ≡ cleared = rewritten cleared heads it.heads.len heads_len clear_size in
    let linked_size : length linked ≡ length cleared = c.relink.ensures.size ∙ ap length (c.as_mut_slice-2.ensures.value ∙ stored) in
    let older_size : length older ≡ length it.older.items = c.relink.ensures.long ∙ ap length c.as_mut_slice-3.ensures.value in
    let links : IsChained mixer it.shift linked keys keys older (length keys) =
    subst (λ (l : List ℕ). IsChained mixer it.shift linked l l older (length l)) c.as_slice.ensures.value c.relink.ensures.links in
    let whole = IsChained-relinked mixer it.shift linked keys it.values.items older it.room
    (λ some. linked_size ∙ clear_size ∙ is.sized some) is.paired is.few is.fits links in (
      IsChained-rewritten mixer it.shift linked keys it.values.items older it.room
          (ap (λ (l : List ℕ). take it.heads.len (linked ++ drop (length linked) l)) stored ∙ rewritten linked cleared it.heads.len (heads_len ∙ sym clear_size) linked_size)
          (rewritten older it.older.items it.older.len it.older.ok.0 older_size) whole,
      c.self.invariant.1,
      c.self.invariant.2,
      c.self.invariant.3,
    )
