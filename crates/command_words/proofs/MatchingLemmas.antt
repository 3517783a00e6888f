-- What the getters of clap tell of what was given.
use Rattle.std.proofs.Common.{◌≡◌, Bool, true, false, List, [], ◌∷◌, map, drop, slice_get, Option, Some, None, is_some, option_and_then, refl}
use Rattle.std.specs.List.{list_all}
use Rattle.std.specs.Option.{option_map_or}
use Rattle.clap.specs.Words.{Row, Text}
use Rattle.clap.specs.Facts.{Entry, explicit_source}
use Rattle.clap.specs.declared.parser.matches.MatchedArg.{MatchedArg}
use Rattle.clap.specs.Walk.{row_of}

-- an argument without an entry isn't given, and one with an entry is, unless its source is a default
pub not_explicit : (entry : Option MatchedArg) → is_some entry ≡ false → false ≡ option_map_or (λ (a : MatchedArg). explicit_source a.source) entry false
not_explicit None none = refl
not_explicit (Some a) none = cc

pub explicit : (entry : Option MatchedArg) → is_some entry ≡ true
    → explicit_source (option_and_then (λ (a : MatchedArg). a.source) entry) ≡ option_map_or (λ (a : MatchedArg). explicit_source a.source) entry false
explicit None some = cc
explicit (Some a) some = refl

-- a test of all that is left, by its first item
pub all_but_first : (test : Text → Bool) (left : List Text) (id : Text) → slice_get left 0 ≡ Some id → test id ≡ true
    → list_all test (drop 1 left) ≡ list_all test left
all_but_first test [] id first passes = cc
all_but_first test (one ∷ rest) id first passes =
    let same : one ≡ id = cc in
    let here : test one ≡ true = rw same passes in
    rw here refl

pub not_all : (test : Text → Bool) (left : List Text) (id : Text) → slice_get left 0 ≡ Some id → test id ≡ false → list_all test left ≡ false
not_all test [] id first fails = cc
not_all test (one ∷ rest) id first fails =
    let same : one ≡ id = cc in
    let here : test one ≡ false = rw same fails in
    rw here refl

pub all_of_none : (test : Text → Bool) (left : List Text) → slice_get left 0 ≡ None → list_all test left ≡ true
all_of_none test [] none = refl
all_of_none test (one ∷ rest) none = cc

-- the ids of the entries are those of the rows
pub all_ids : (test : Text → Bool) (entries : List Entry) → list_all test (map (λ entry. entry.0.now) entries) ≡ list_all (λ (row : Row). test row.id) (map row_of entries)
all_ids test [] = refl
all_ids test (entry ∷ rest) = rw (all_ids test rest) refl
