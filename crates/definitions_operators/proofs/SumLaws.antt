-- A selection and a projection keep the values of the rows that pass the test.
use Rattle.std.proofs.Common.{◌≡◌, ◌∙◌, ap, sym, ℕ, Bool, List, map, length, get_or, arith}
use Rattle.std.specs.Prelude.{slice_index, zip}
use Rattle.std.proofs.Math.ListN.{get_or-map}
use Rattle.std.proofs.lemmas.Simd.{map-map}
use Rattle.std.proofs.lemmas.Slice.Zip.{firsts-zip, seconds-zip, length-zip}
use Rattle.definitions_operators.specs.Operators.{places_where, is_within, positions_in, values_at}
use Rattle.definitions_operators.specs.Sums.{kept_values}
use Rattle.definitions_operators.proofs.PlaceLaws.{places_where-read}

-- the values at the positions of a selection are those of the rows that it keeps
pub values_at-positions_in : (values tested : List ℕ) (low high : ℕ) → length values ≡ length tested → values_at values (positions_in low high tested) ≡ kept_values values tested low high
values_at-positions_in values tested low high same =
    let rows : List (ℕ × ℕ) = zip values tested in
    let row : ℕ → ℕ × ℕ = λ place. get_or rows place (0, 0) in
    let kept : ℕ × ℕ → Bool = λ row. is_within low high row.1 in
    let long : length tested ≡ length rows = omega (arith, length-zip values tested) in
    let value : (place : ℕ) → slice_index values place ≡ (row place).0 =
    λ place. ap (λ l. slice_index l place) (sym (firsts-zip values tested (sym same))) ∙ get_or-map (λ (row : ℕ × ℕ). row.0) rows place (0, 0) in
    let test : (place : ℕ) → slice_index tested place ≡ (row place).1 =
    λ place. ap (λ l. slice_index l place) (sym (seconds-zip values tested (sym same))) ∙ get_or-map (λ (row : ℕ × ℕ). row.1) rows place (0, 0) in
    ap (values_at values) (ap (places_where (λ place. is_within low high (slice_index tested place))) long)
    ∙ ap (λ (at : ℕ → ℕ). values_at values (places_where (λ place. is_within low high (at place)) (length rows))) (λ i place. test place i)
    ∙ ap (λ (at : ℕ → ℕ). map at (places_where (λ place. kept (row place)) (length rows))) (λ i place. value place i)
    ∙ sym (map-map (λ (row : ℕ × ℕ). row.0) row (places_where (λ place. kept (row place)) (length rows)))
    ∙ ap (map (λ (row : ℕ × ℕ). row.0)) (places_where-read (0, 0) kept rows)
