-- What a table of the code and the table that it stands for have in common.
use Rattle.std.proofs.Common.{◌≡◌, ◌||◌, ◌&&◌, Bool, true, false, List, [], ◌∷◌, map, refl, ap, sym, string_bytes}
use Rattle.std.specs.List.{list_any}
use Rattle.std.specs.Map.{keys_of as map_keys}
use Rattle.std.specs.Str.{bytes_eq}
use Rattle.std.proofs.lemmas.Bool.{false_from_ne_true}
use Rattle.std.proofs.lemmas.Slice.Eq.{bytes_eq-Decides}
use Rattle.toml.specs.View.{view, items_view, members_view}
use Rattle.toml.specs.declared.value.Value.{Value}
use Rattle.toml.proofs.Views.{Entry}
use Rattle.catalog_core.specs.Texts.{Text}
use Rattle.catalog_core.specs.Schemas.{keys_of, list_of}

pub list_any-map : {X Y : Type 0} (p : X → Bool) (h : Y → X) (ys : List Y) → list_any p (map h ys) ≡ list_any (λ y. p (h y)) ys
list_any-map p h [] = refl
list_any-map p h (y ∷ ys) = ap (λ b. p (h y) || b) (list_any-map p h ys)

-- the items that an array stands for
pub list_of-view : (values : List Value) → list_of (items_view values) ≡ map view values
list_of-view [] = refl
list_of-view (value ∷ rest) = ap (λ more. view value ∷ more) (list_of-view rest)

-- the keys that a table stands for
pub keys_of-view : (entries : List Entry) → keys_of (members_view entries) ≡ map string_bytes (map_keys entries)
keys_of-view [] = refl
keys_of-view (entry ∷ rest) = ap (λ more. string_bytes entry.0 ∷ more) (keys_of-view rest)

-- a word that the text is not
pub other : (word text : Text) → (text ≡ word → ⊥) → bytes_eq word text ≡ false
other word text differs = false_from_ne_true _ (λ e. differs (sym ((bytes_eq-Decides word text).0 e)))

pub and_false : (a : Bool) → (a && false) ≡ false
and_false true = refl
and_false false = refl

pub and_true : (a : Bool) → (a && true) ≡ a
and_true true = refl
and_true false = refl
