use Rattle.std.proofs.Common.{◌∙◌, ◌+◌, ◌-◌, ◌≤◌, ◌<◌, All, refl, sym, subst, arith, length, get_or}
use Rattle.std.proofs.lemmas.List.{length-set}
use Rattle.join_ops.proofs.DirectLaws.{direct-none, direct-step, direct-all}
use Rattle.join_ops.proofs.direct_tables.link_all.Goals as goal

pub loop-index-init : goal.loop-index-init
loop-index-init c = record {
  size = refl;
  direct = direct-none c.args.low c.args.heads.now c.args.keys.now c.args.next.now (length c.args.keys.now - 0) (omega arith) c.requires.none c.requires.linked;
}

pub loop-index-preserved : goal.loop-index-preserved
loop-index-preserved c =
    let keys = c.args.keys.now in
    let heads = c.loop-index.heads in
    let place = length keys - 1 - c.loop-index.index in
    let inside : c.loop-index.index < length keys = omega (arith, c.loop-index-test.true) in
    let within = c.requires.within place 0 (omega (arith, inside)) in
    let from : c.args.low ≤ get_or keys place 0 = within.0 in
    let upto : get_or keys place 0 + 1 < c.args.low + length c.args.heads.now = within.1 in
    let distance = get_or keys place 0 - c.args.low in
    record {
      size = length-set heads distance (place + 1) ∙ c.loop-index.invariant.size;
      direct = direct-step c.args.low heads keys c.loop-index.next place (length keys - c.loop-index.index) (length keys - (c.loop-index.index + 1)) distance (get_or heads distance 0)
          (omega (arith, inside)) (omega (arith, inside)) (omega (arith, inside)) (omega (arith, from)) (omega (arith, from, upto, c.loop-index.invariant.size)) refl c.loop-index.invariant.direct;
    }

pub returns-clause-direct : goal.returns-clause-direct
returns-clause-direct c =
    let size = c.loop-index.invariant.size in
    direct-all c.args.low c.loop-index.heads c.args.keys.now c.loop-index.next (length c.args.keys.now - c.loop-index.index) (omega (arith, c.loop-index-test.false)) (omega (arith, size, c.requires.some)) (omega (arith, size, c.requires.fits)) c.requires.few
    (subst (λ n. All (λ key. (c.args.low ≤ key) × (key + 1 < c.args.low + n)) c.args.keys.now) (sym size) c.requires.within)
    c.loop-index.invariant.direct
