use Rattle.query_text.specs.Reading.{alternatives_at}
use Rattle.query_text.specs.Views.{name_view, tokens_view}
use Rattle.query_text.proofs.LoopLemmas.{choice_is}
use Rattle.query_text.proofs.conditions.alternatives.Goals as goal

pub returns : goal.returns
unfolding alternatives_at
returns c =
    rw (c.in_ok-name.ensures, c.in_ok-rest.ensures, c.in_ok-values.ensures.read, c.in_ok-rest-2.ensures, c.from_vec.ensures, c.from_vec-2.ensures, c.in_ok-column.ensures)
    (choice_is (name_view c.in_ok-name.name) c.in_ok-values.values.items c.in_ok-values.places.items (tokens_view c.in_ok-rest-2.rest.now) c.in_ok-values.ensures.alike)
