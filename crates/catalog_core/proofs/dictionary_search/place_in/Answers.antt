use Rattle.std.proofs.Common.{◌≡◌, ◌∙◌, ◌+◌, ◌-◌, ◌/◌, true, false, sym, ap, get_or, [], arith}
use Rattle.catalog_core.specs.Indexed.{texts_at}
use Rattle.catalog_core.specs.DictionarySearch.{is_counted}
use Rattle.catalog_core.proofs.DictionarySearchLemmas.{length-texts_at, parts_more, parts_less}
use Rattle.catalog_core.proofs.dictionary_search.place_in.Goals as goal

pub loop-low-preserved-then-is_counted : goal.loop-low-preserved-then-is_counted
loop-low-preserved-then-is_counted c =
    let texts = texts_at c.args.bytes.now c.args.starts.now in
    let middle = c.loop-low.low + (c.loop-low.high - c.loop-low.low) / 2 in
    let here : is_counted c.args.through c.args.text.now (get_or texts middle []) ≡ true = ap (is_counted c.args.through c.args.text.now) (sym c.text_of.ensures) ∙ sym c.is_counted.ensures ∙ c.if-is_counted.true in
    record {
      ordered = omega arith;
      within = c.loop-low.invariant.within;
      below = parts_more c.args.through c.args.text.now texts middle c.requires.file.lawful.rising (omega (arith, length-texts_at c.args.bytes.now c.args.starts.now)) here;
      above = c.loop-low.invariant.above;
    }

pub loop-low-preserved : goal.loop-low-preserved
loop-low-preserved c =
    let texts = texts_at c.args.bytes.now c.args.starts.now in
    let middle = c.loop-low.low + (c.loop-low.high - c.loop-low.low) / 2 in
    let here : is_counted c.args.through c.args.text.now (get_or texts middle []) ≡ false = ap (is_counted c.args.through c.args.text.now) (sym c.text_of.ensures) ∙ sym c.is_counted.ensures ∙ c.if-is_counted.false in
    record {
      ordered = omega arith;
      within = omega arith;
      below = c.loop-low.invariant.below;
      above = parts_less c.args.through c.args.text.now texts middle c.requires.file.lawful.rising here;
    }
