use Rattle.query_text.specs.Reading.{membership_at}
use Rattle.query_text.specs.Views.{word_view, tokens_view}
use Rattle.query_text.proofs.LoopLemmas.{choice_is}
use Rattle.query_text.proofs.conditions.membership.Goals as goal

pub returns : goal.returns
unfolding membership_at
returns c =
    rw (c.in_ok-rest.ensures, c.in_ok-rest-2.ensures, c.in_ok-values.ensures.read, c.in_ok-rest-3.ensures, c.from_vec.ensures, c.from_vec-2.ensures)
    (choice_is (word_view c.args.column) c.in_ok-values.values.items c.in_ok-values.places.items (tokens_view c.in_ok-rest-3.rest.now) c.in_ok-values.ensures.alike)
