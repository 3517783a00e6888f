use Rattle.std.proofs.Common.{◌≡◌, ◌∙◌, ◌+◌, ◌-◌, ◌/◌, ◌<◌, ◌≤◌, ℕ, true, sym, subst, get_or, [], length, arith}
use Rattle.catalog_core.specs.Texts.{is_below}
use Rattle.catalog_core.specs.Indexed.{texts_at}
use Rattle.catalog_core.proofs.DictionarySearchLemmas.{length-texts_at, lower_too, upper_too, code_there, code_not_there}
use Rattle.catalog_core.proofs.dictionary_search.code_in.Goals as goal

pub loop-low-preserved-in-Less : goal.loop-low-preserved-in-Less
loop-low-preserved-in-Less c =
    let texts = texts_at c.args.bytes.now c.args.starts.now in
    let middle = c.loop-low.low + (c.loop-low.high - c.loop-low.low) / 2 in
    let here : is_below (get_or texts middle []) c.args.text.now ≡ true = subst (λ t. is_below t c.args.text.now ≡ true) c.text_of.ensures c.in-Less.ensures in
    record {
      ordered = omega arith;
      within = c.loop-low.invariant.within;
      below = lower_too c.args.text.now texts middle c.requires.file.lawful.rising (omega (arith, length-texts_at c.args.bytes.now c.args.starts.now)) here;
      above = c.loop-low.invariant.above;
    }

pub returns-in-Equal : goal.returns-in-Equal
returns-in-Equal c =
    let texts = texts_at c.args.bytes.now c.args.starts.now in
    code_there c.args.text.now texts (c.loop-low.low + (c.loop-low.high - c.loop-low.low) / 2) c.requires.file.lawful.rising
    (omega (arith, length-texts_at c.args.bytes.now c.args.starts.now)) (sym c.text_of.ensures ∙ c.in-Equal.ensures)

pub loop-low-preserved : goal.loop-low-preserved
loop-low-preserved c =
    let texts = texts_at c.args.bytes.now c.args.starts.now in
    let middle = c.loop-low.low + (c.loop-low.high - c.loop-low.low) / 2 in
    let here : is_below c.args.text.now (get_or texts middle []) ≡ true = subst (λ t. is_below c.args.text.now t ≡ true) c.text_of.ensures c.in-Greater.ensures in
    record {
      ordered = omega arith;
      within = omega arith;
      below = c.loop-low.invariant.below;
      above = upper_too c.args.text.now texts middle c.requires.file.lawful.rising here;
    }

pub returns : goal.returns
returns c =
    let texts = texts_at c.args.bytes.now c.args.starts.now in
    let above : (k : ℕ) → c.loop-low.low ≤ k → k < length texts → is_below c.args.text.now (get_or texts k []) ≡ true =
    λ k upper within. c.loop-low.invariant.above k (omega (arith, upper, c.loop-low-test.false)) within in
    code_not_there c.args.text.now texts c.loop-low.low c.loop-low.invariant.below above
