use Rattle.query_text.proofs.PlaceLemmas.{places_rise}
use Rattle.query_text.proofs.laws.places_rise.Goals as goal

pub returns : goal.returns
returns c = places_rise
