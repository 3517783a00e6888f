-- What a load and a save say of told files.
use Rattle.std.specs.Prelude.{◌≡◌, ◌≢◌, ℕ, ◌<◌, List, length, Option, Some, None, Result, Ok, Err}
use Rattle.stream_core.specs.Files.{Files, Holds}
use Rattle.stream_core.specs.declared.storing.LoadError.{LoadError}
use Rattle.stream_core.specs.declared.storing.LoadError.TheVariants as load
use Rattle.stream_core.specs.declared.storing.SaveError.{SaveError}
use Rattle.stream_core.specs.declared.storing.SaveError.TheVariants as save

-- the file has more bytes than the limit
pub record Exceeds (files : Files) (name : List ℕ) (limit : ℕ) : Type 0 where
  pub bytes : List ℕ
  pub there : files name ≡ Some bytes
  pub long : limit < length bytes

-- what a load gives: the file, nothing exactly where there is none, and a refusal exactly where it is too long
abbrev pub Loads : Files → List ℕ → ℕ → Result (Option (List ℕ)) LoadError → Type 0
Loads files name limit (Ok None) = files name ≡ None
Loads files name limit (Ok (Some bytes)) = Holds files name limit bytes
Loads files name limit (Err load.Failed) = Unit {0}
Loads files name limit (Err load.TooLong) = Exceeds files name limit
Loads files name limit (Err load.Memory) = Unit {0}

abbrev pub IsLoaded : Option Files → List ℕ → ℕ → Result (Option (List ℕ)) LoadError → Type 0
IsLoaded None name limit result = Unit {0}
IsLoaded (Some files) name limit result = Loads files name limit result

-- no file but this one changed
abbrev pub KeepsOthers : Files → Files → List ℕ → Type 0
KeepsOthers before after name = (other : List ℕ) → other ≢ name → after other ≡ before other

-- the file has these bytes now, and no other changed
abbrev pub Replaces : Files → Files → List ℕ → List ℕ → Type 0
Replaces before after name bytes = (after name ≡ Some bytes) × KeepsOthers before after name

-- what a save does: it replaces the file, or leaves any file or none under its name, or changes nothing
abbrev pub Saves : Files → Files → List ℕ → List ℕ → Result (Unit {0}) SaveError → Type 0
Saves before after name bytes (Ok done) = Replaces before after name bytes
Saves before after name bytes (Err save.Failed) = KeepsOthers before after name
Saves before after name bytes (Err save.Memory) = (other : List ℕ) → after other ≡ before other

abbrev pub IsSaved : Option Files → Option Files → List ℕ → List ℕ → Result (Unit {0}) SaveError → Type 0
IsSaved None after name bytes result = after ≡ None
IsSaved (Some before) None name bytes result = ⊥
IsSaved (Some before) (Some after) name bytes result = Saves before after name bytes result
