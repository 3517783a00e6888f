use Rattle.std.proofs.Common.{◌≡◌, ◌+◌, ◌<◌, ◌∙◌, ◌++◌, ◌∷◌, [], length, set, ap, arith}
use Rattle.std.specs.Prelude.{slice_index}
use Rattle.std.proofs.lemmas.List.{get_or_read}
use Rattle.chain_table.specs.Entries.{Entries}
use Rattle.chain_table.specs.Buckets.{bucket_of}
use Rattle.chain_table.proofs.ChainLaws.{IsChained-insert, IsChained-same}
use Rattle.chain_table.proofs.chain.Chain.insert.Goals as goal

pub invariant_of-self : goal.invariant_of-self
invariant_of-self c =
    let it = c.self.inside in
    let bucket = bucket_of it.mixer it.shift c.args.key in
    let at : c.bucket_of-bucket.result ≡ bucket = c.bucket_of-bucket.ensures.bucket in
    let long : c.len-entry.result + 1 ≡ length it.keys.items + 1 = ap (λ n. n + 1) (c.len-entry.ensures ∙ it.keys.ok.0) in
    let heads : set it.heads.items c.bucket_of-bucket.result (c.len-entry.result + 1) ≡ set it.heads.items bucket (length it.keys.items + 1) =
    ap (λ n. set it.heads.items n (c.len-entry.result + 1)) at ∙ ap (λ n. set it.heads.items bucket n) long in
    let link : slice_index it.heads.items c.bucket_of-bucket.result ≡ slice_index it.heads.items bucket = ap (λ n. slice_index it.heads.items n) at in
    let some : length it.keys.items < it.room = omega (arith, c.requires, ap (λ (e : Entries). length e.keys) c.self.view_is, ap (λ (e : Entries). e.room) c.self.view_is) in
    let within : c.bucket_of-bucket.result < length it.heads.items = omega (arith, c.bucket_of-bucket.ensures.within, c.self.invariant.0.sized (omega arith)) in
    let newest : c.index-newest.result.now ≡ slice_index it.heads.items c.bucket_of-bucket.result =
    get_or_read it.heads.items c.bucket_of-bucket.result c.index-newest.result.now within c.index-newest.ensures 0 in (
      IsChained-same it.mixer it.shift (set it.heads.items bucket (length it.keys.items + 1)) (set it.heads.items c.bucket_of-bucket.result (c.len-entry.result + 1))
          (it.keys.items ++ c.args.key ∷ []) c.push_word.new.list.items (it.values.items ++ c.args.value ∷ []) c.push_word-2.new.list.items
          (it.older.items ++ slice_index it.heads.items bucket ∷ []) c.push_link.new.list.items it.room heads c.push_word.ensures.items c.push_word-2.ensures.items
          (c.push_link.ensures.items ∙ ap (λ n. it.older.items ++ n ∷ []) (newest ∙ link))
          (IsChained-insert it.mixer it.shift it.heads.items it.keys.items it.values.items it.older.items it.room c.args.key c.args.value c.self.invariant.0 some),
      omega (arith, c.push_word.ensures.room, c.self.invariant.1),
      omega (arith, c.push_word-2.ensures.room, c.self.invariant.2),
      omega (arith, c.push_link.ensures.room, c.self.invariant.3),
    )
