-- What the writes of values and of cells leave.
use Rattle.std.proofs.Common.{◌≡◌, ℕ, ◌+◌, ◌-◌, ◌*◌, ◌<◌, ◌≤◌, List, [], ◌∷◌, ◌++◌, length, map, take, drop, get_or, flat_map, replicate, refl, sym, ap, ap₂, ◌∙◌, subst, arith, add-one, length-append, append_assoc}
use borrow.Rule.Slice.PartMut.{put_mid}
use Rattle.std.proofs.lemmas.List.{take-append-drop, length-take, length-drop, length-replicate, take_at, drop_all, at_drop_more, append-nil}
use Rattle.std.proofs.lemmas.Slice.{take-put_mid}
use Rattle.definitions_blocks.specs.Runs.{Run, run_values, run_bytes, run_count}
use Rattle.definitions_blocks.proofs.RunBlockLaws.{length-run_bytes, length-runs_bytes}
use Rattle.definitions_blocks.proofs.RunListLaws.{runs_of, length-runs_of, runs_from, runs_from-same, runs_from-other, length-runs_from}
use Rattle.run_formats.specs.Cells.{value_in, length_in, run_in}

-- a front and a rest that are written one after the other
pub both_parts : (n : ℕ) (into front back : List ℕ) → length front ≡ n → put_mid n (length (front ++ drop n into) - n) (front ++ drop n into) back ≡ front ++ back
both_parts n into front back long =
    let all = front ++ drop n into in
    let head : take n all ≡ front = take_at front (drop n into) n long in
    let none : drop (length all - n) (drop n all) ≡ [] = drop_all (length all - n) (drop n all) (omega (arith, length-drop n all)) in
    ap (λ (xs : List ℕ). xs ++ (back ++ drop (length all - n) (drop n all))) head
    ∙ ap (λ (xs : List ℕ). front ++ (back ++ xs)) none ∙ ap (λ (xs : List ℕ). front ++ xs) (append-nil back)

length-put_mid : (place count : ℕ) (into part : List ℕ) → place + count ≤ length into → length part ≡ count → length (put_mid place count into part) ≡ length into
length-put_mid place count into part within long =
    omega (
      arith,
      length-append (take place into) (part ++ drop count (drop place into)),
      length-append part (drop count (drop place into)),
      length-take place into,
      length-drop count (drop place into),
      length-drop place into,
    )

-- a part is written behind what was written before
written : (place count end : ℕ) (into part rest all : List ℕ) → end ≡ place + count → end ≤ length into → length part ≡ count → take place into ++ (part ++ rest) ≡ all →
    (end ≤ length (put_mid place (end - place) into part)) × (take end (put_mid place (end - place) into part) ++ rest ≡ all)
written place count end into part rest all is within long e =
    let size : end - place ≡ count = omega arith in
    let kept : length (put_mid place (end - place) into part) ≡ length into =
    ap (λ (n : ℕ). length (put_mid place n into part)) size ∙ length-put_mid place count into part (omega arith) long in (
      omega arith,
      ap (λ (xs : List ℕ). xs ++ rest) (take-put_mid place (end - place) into part end (omega arith) (omega arith)) ∙ append_assoc (take place into) part rest ∙ e,
    )

-- the values of one more run are written, and any behind them
pub values_more : (cells : List (List ℕ)) (i place count value : ℕ) (into part : List ℕ) → i < length cells → place ≤ length into → length into ≡ length (run_values (map run_in cells))
    → take place into ++ run_values (map run_in (drop i cells)) ≡ run_values (map run_in cells)
    → count ≡ length_in (get_or cells i []) → value ≡ value_in (get_or cells i []) → length part ≡ length (take (length into - place) (drop place into)) → take count part ≡ replicate count value
    → (place + count ≤ length (put_mid place (length into - place) into part))
    × (take (place + count) (put_mid place (length into - place) into part) ++ run_values (map run_in (drop (i + 1) cells)) ≡ run_values (map run_in cells))
values_more cells i place count value into part within before whole e is_length is_value kept first =
    let rest = run_values (map run_in (drop (i + 1) cells)) in
    let step : run_values (map run_in (drop i cells)) ≡ replicate count value ++ rest =
    at_drop_more (λ (list : List (List ℕ)). run_values (map run_in list)) cells i [] within
    ∙ ap₂ (λ (n v : ℕ). replicate n v ++ rest) (sym is_length) (sym is_value) in
    let now : take place into ++ (replicate count value ++ rest) ≡ run_values (map run_in cells) = ap (λ (xs : List ℕ). take place into ++ xs) (sym step) ∙ e in
    let room : place + count ≤ length into =
    omega (arith, ap length now, length-append (take place into) (replicate count value ++ rest), length-append (replicate count value) rest, length-replicate count value, length-take place into) in
    let front : List ℕ = take place into ++ replicate count value in
    let long : length front ≡ place + count = omega (arith, length-append (take place into) (replicate count value), length-take place into, length-replicate count value) in
    let behind : List ℕ = drop (length into - place) (drop place into) in
    let split : part ≡ replicate count value ++ drop count part = sym (take-append-drop count part) ∙ ap (λ (xs : List ℕ). xs ++ drop count part) first in
    let all : put_mid place (length into - place) into part ≡ front ++ (drop count part ++ behind) =
    ap (λ (xs : List ℕ). take place into ++ (xs ++ behind)) split
    ∙ ap (λ (xs : List ℕ). take place into ++ xs) (append_assoc (replicate count value) (drop count part) behind)
    ∙ sym (append_assoc (take place into) (replicate count value) (drop count part ++ behind)) in (
      omega (arith, ap length all, length-append front (drop count part ++ behind), long),
      ap (λ (xs : List ℕ). take (place + count) xs ++ rest) all ∙ ap (λ (xs : List ℕ). xs ++ rest) (take_at front (drop count part ++ behind) (place + count) long)
          ∙ append_assoc (take place into) (replicate count value) rest ∙ now,
    )

-- as much room as the runs of values take
pub runs_room : (values into : List ℕ) → length into ≡ 10 * run_count values → length into ≡ length (flat_map run_bytes (runs_of values))
runs_room values into size = omega (arith, size, length-runs_bytes (runs_of values), length-runs_of values)

-- how much room the runs that are left take
pub room_for : (place : ℕ) (into all : List ℕ) (runs : List Run) → place ≤ length into → length into ≡ length all → take place into ++ flat_map run_bytes runs ≡ all → place + 10 * length runs ≡ length into
room_for place into all runs before whole e =
    omega (arith, ap length e, length-append (take place into) (flat_map run_bytes runs), length-take place into, length-runs_bytes runs)

-- there is room for the run that is counted
pub room_for_one : (place value count : ℕ) (into all values : List ℕ) → place ≤ length into → length into ≡ length all → take place into ++ flat_map run_bytes (runs_from value count values) ≡ all → place + 10 ≤ length into
room_for_one place value count into all values before whole e =
    omega (arith, room_for place into all (runs_from value count values) before whole e, length-runs_from value count values)

pub room_for_last : (i place value count : ℕ) (into all values : List ℕ) → length values ≤ i → place ≤ length into → length into ≡ length all → take place into ++ flat_map run_bytes (runs_from value count (drop i values)) ≡ all → place + 10 ≡ length into
room_for_last i place value count into all values end before whole e =
    let none : drop i values ≡ [] = drop_all i values end in
    room_for place into all (record { value = value; length = count } ∷ []) before whole
    (ap (λ (rest : List ℕ). take place into ++ flat_map run_bytes (runs_from value count rest)) (sym none) ∙ e)

-- what a step of the loop over the values keeps
abbrev pub Counted : List ℕ → ℕ → List ℕ → List ℕ → ℕ → ℕ → ℕ → Type 0
Counted values i all into value count place = (count + 1 ≤ i + 1) × (place ≤ length into) × (take place into ++ flat_map run_bytes (runs_from value (count + 1) (drop (i + 1) values)) ≡ all)

-- the next value is another: a run is written, and one begins
pub run_ends : (values all into part later : List ℕ) (i place value count next none end : ℕ) → i < length values → place ≤ length into → length into ≡ length all
    → take place into ++ flat_map run_bytes (runs_from value count (drop i values)) ≡ all
    → (get_or values i 0 ≡ value → ⊥) → part ≡ run_bytes (record { value = value; length = count })
    → later ≡ put_mid place ((place + 10) - place) into part → next ≡ get_or values i 0 → none ≡ 0 → end ≡ place + 10 → Counted values i all later next none end
run_ends values all into part later i place value count next none end within before whole e other is_part is_later is_next is_none is_end =
    let rest = drop (i + 1) values in
    let run : Run = record { value = value; length = count } in
    let more = flat_map run_bytes (runs_from (get_or values i 0) 1 rest) in
    let room : place + 10 ≤ length into = room_for_one place value count into all (drop i values) before whole e in
    let step : flat_map run_bytes (runs_from value count (drop i values)) ≡ run_bytes run ++ more =
    at_drop_more (λ (list : List ℕ). flat_map run_bytes (runs_from value count list)) values i 0 within
    ∙ ap (λ (list : List Run). flat_map run_bytes list) (runs_from-other value count (get_or values i 0) rest other) in
    let done = written place 10 (place + 10) into part more all refl room (ap length is_part ∙ length-run_bytes run)
    (ap (λ (xs : List ℕ). take place into ++ (xs ++ more)) is_part ∙ ap (λ (xs : List ℕ). take place into ++ xs) (sym step) ∙ e) in
    let Kept : List ℕ → ℕ → ℕ → ℕ → Type 0 = λ xs v n k. Counted values i all xs v n k in
    subst (λ (xs : List ℕ). Kept xs next none end) (sym is_later)
    (subst (λ (v : ℕ). Kept (put_mid place ((place + 10) - place) into part) v none end) (sym is_next)
    (subst (λ (n : ℕ). Kept (put_mid place ((place + 10) - place) into part) (get_or values i 0) n end) (sym is_none)
    (subst (λ (k : ℕ). Kept (put_mid place ((place + 10) - place) into part) (get_or values i 0) 0 k) (sym is_end)
    (omega arith, done.0, done.1))))

-- the next value is the same: the run grows
pub run_grows : (values all into later : List ℕ) (i place value count next more end : ℕ) → i < length values → count ≤ i → place ≤ length into
    → take place into ++ flat_map run_bytes (runs_from value count (drop i values)) ≡ all
    → get_or values i 0 ≡ value → later ≡ into → next ≡ value → more ≡ count → end ≡ place → Counted values i all later next more end
run_grows values all into later i place value count next more end within few before e same is_later is_next is_more is_end =
    let rest = drop (i + 1) values in
    let step : flat_map run_bytes (runs_from value count (drop i values)) ≡ flat_map run_bytes (runs_from value (count + 1) rest) =
    at_drop_more (λ (list : List ℕ). flat_map run_bytes (runs_from value count list)) values i 0 within
    ∙ ap (λ (list : List Run). flat_map run_bytes list) (runs_from-same value count (get_or values i 0) rest same)
    ∙ ap (λ (n : ℕ). flat_map run_bytes (runs_from value n rest)) (sym (add-one count)) in
    let Kept : List ℕ → ℕ → ℕ → ℕ → Type 0 = λ xs v n k. Counted values i all xs v n k in
    subst (λ (xs : List ℕ). Kept xs next more end) (sym is_later)
    (subst (λ (v : ℕ). Kept into v more end) (sym is_next)
    (subst (λ (n : ℕ). Kept into value n end) (sym is_more)
    (subst (λ (k : ℕ). Kept into value count k) (sym is_end)
    (omega arith, before, ap (λ (xs : List ℕ). take place into ++ xs) (sym step) ∙ e))))

-- the last run is written
pub last_run : (values all into part : List ℕ) (i place value count : ℕ) → length values ≤ i → place ≤ length into → length into ≡ length all
    → take place into ++ flat_map run_bytes (runs_from value count (drop i values)) ≡ all → part ≡ run_bytes (record { value = value; length = count })
    → put_mid place (length into - place) into part ≡ all
last_run values all into part i place value count end before whole e is_part =
    let none : drop i values ≡ [] = drop_all i values end in
    let behind : drop (length into - place) (drop place into) ≡ [] = drop_all (length into - place) (drop place into) (omega (arith, length-drop place into)) in
    ap (λ (rest : List ℕ). take place into ++ (part ++ rest)) behind ∙ ap (λ (cell : List ℕ). take place into ++ (cell ++ [])) is_part
    ∙ ap (λ (rest : List ℕ). take place into ++ flat_map run_bytes (runs_from value count rest)) (sym none) ∙ e
