use Rattle.std.proofs.Common.{◌≡◌, ◌∙◌, ◌+◌, length, take, get_or, refl, sym, arith}
use Rattle.std.proofs.lemmas.List.{length-set, take_all}
use Rattle.chain_table.proofs.ChainLaws.{IsChained-none, IsChained-same, IsChained-next}
use Rattle.chain_table.proofs.chain.relink.Goals as goal

pub loop-entry-init : goal.loop-entry-init
loop-entry-init c = record {
  size = refl;
  long = refl;
  links = IsChained-none c.args.mixer c.args.shift c.args.heads.now (length c.args.keys.now) c.requires.none (λ some. c.requires.sized) c.requires.few c.requires.shifts;
}

pub loop-entry-preserved : goal.loop-entry-preserved
loop-entry-preserved c =
    let heads = c.loop-entry.heads in
    let older = c.loop-entry.older in
    let n = c.loop-entry.entry in
    let bucket = c.bucket_of-bucket.result in
    record {
      size = length-set heads bucket (n + 1) ∙ c.loop-entry.invariant.size;
      long = length-set older n (get_or heads bucket 0) ∙ c.loop-entry.invariant.long;
      links = IsChained-next c.args.mixer c.args.shift heads c.args.keys.now older n bucket (get_or heads bucket 0) (omega arith) (c.loop-entry.invariant.long ∙ c.requires.linked)
          c.bucket_of-bucket.ensures.bucket refl c.loop-entry.invariant.links;
    }

pub returns-clause-links : goal.returns-clause-links
returns-clause-links c =
    let keys = c.args.keys.now in
    let n = c.loop-entry.entry in
    let all : take n keys ≡ keys = take_all n keys (omega arith) in
    let links : take n c.loop-entry.older ≡ c.loop-entry.older = take_all n c.loop-entry.older (omega (arith, c.loop-entry.invariant.long, c.requires.linked)) in
    IsChained-same c.args.mixer c.args.shift c.loop-entry.heads c.loop-entry.heads (take n keys) keys (take n keys) keys (take n c.loop-entry.older) c.loop-entry.older (length keys)
    refl (sym all) (sym all) (sym links) c.loop-entry.invariant.links
