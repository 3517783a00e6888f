-- The names of GROUP BY, one by one.
use Rattle.std.proofs.Common.{◌≡◌, ◌∙◌, ℕ, ◌+◌, Bool, true, false, List, [], ◌∷◌, ◌++◌, length, ap, sym, cond}
use Rattle.std.specs.Prelude.{Ok, Err}
use Rattle.std.proofs.lemmas.List.{length-append}
use Rattle.definitions_queries.specs.Queries.{Word}
use Rattle.query_bind.specs.NameMaps.{is_among}
use Rattle.query_bind.specs.Binding.{next_group}
use Rattle.query_bind.specs.declared.errors.BindError.TheVariants as refusal

-- one more name
pub one_more_group : (earlier : List (List ℕ × ℕ)) (word : Word) (after : List (List ℕ × ℕ)) → next_group earlier word ≡ Ok after → length after ≡ length earlier + 1
one_more_group earlier word after e = by (is_among earlier word.text) e where
  by : (among : Bool) → cond among (Err (refusal.NameTwice word.at)) (Ok (earlier ++ (word.text, length earlier) ∷ [])) ≡ Ok after → length after ≡ length earlier + 1
  by true e = absurd (cc)
  by false e = let same : earlier ++ (word.text, length earlier) ∷ [] ≡ after = cc in ap length (sym same) ∙ length-append earlier ((word.text, length earlier) ∷ [])
