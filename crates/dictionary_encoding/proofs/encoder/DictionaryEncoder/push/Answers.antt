use Rattle.dictionary_encoding.specs.Numbers.{texts_of}
use Rattle.dictionary_encoding.proofs.NumberLemmas.{texts_at-push, AreNumbers-push}
use Rattle.dictionary_encoding.proofs.encoder.DictionaryEncoder.push.Goals as goal

pub invariant_of-self-2 : goal.invariant_of-self-2
invariant_of-self-2 c =
    let inside = c.self.inside in
    rw (c.in_ok-push.ensures.items, c.in_ok-reserve.ensures.items)
    (AreNumbers-push (texts_of inside.distinct.keys) c.args.text.now (texts_of c.number_of.new.distinct.keys) inside.numbers.items c.in_ok-number.number c.self.invariant c.in_ok-number.ensures.grows c.in_ok-number.ensures.number)

pub returns-clause-pushed : goal.returns-clause-pushed
returns-clause-pushed c =
    let inside = c.self.inside in
    rw (c.in_ok-push.ensures.items, c.in_ok-reserve.ensures.items, ← c.self.view_is)
    (texts_at-push (texts_of inside.distinct.keys) c.args.text.now (texts_of c.number_of.new.distinct.keys) inside.numbers.items c.in_ok-number.number c.self.invariant c.in_ok-number.ensures.grows c.in_ok-number.ensures.number)
