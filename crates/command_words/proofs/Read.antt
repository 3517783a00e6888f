-- What the getters of clap read, and that the program's command is a simple one.
use Rattle.std.proofs.Common.{◌≡◌, ℕ, true, false, [], ◌∷◌, Option, Some, None, refl, arith, inl, inr}
use Rattle.std.specs.Prelude.{Result, Ok, Err}
use Rattle.std.specs.Str.Parse.{ParsesUnsigned}
use Rattle.std.proofs.lemmas.Bool.{cases_Bool}
use Rattle.clap.specs.Words.{ReadsOne, Text, is_simple, HasKind, Kinds, kind_of}
use Rattle.clap.specs.declared.error.Error.{Error}
use Rattle.clap.specs.declared.error.kind.ErrorKind.TheVariants.{OutOfMemory}
use Rattle.clap.specs.Faults.{is_simple_and_free}
use Rattle.clap.specs.ValueTests.{accepts}
use Rattle.clap.proofs.ValueTestLemmas.{accepts-Accepts, Accepts-accepts}
use Rattle.clap.proofs.OnLiterals.{clap_on_literals}
use Rattle.definitions_outcomes.specs.Computed.{and_then}
use Rattle.command_words.specs.Words.{program, number_of, u64_parser}

pub program-is_free : is_simple_and_free program ≡ true
unfolding program clap_on_literals
program-is_free = refl

pub program-is_simple : is_simple program ≡ true
unfolding program clap_on_literals
program-is_simple = refl

-- a number that was read is the one of the text
pub number_read : {E : Type 0} (text : Text) (r : Option ℕ) (gives : Text → Result ℕ E → Type 0)
    → ((x : Result ℕ E) → gives text x → ParsesUnsigned 64 10 text x) → ReadsOne gives text r → r ≡ number_of text
number_read text (Some n) gives parses read =
    let h = parses (Ok n) read in
    let taken : accepts false u64_parser text ≡ true = Accepts-accepts false u64_parser text (h.0.0, h.0.1, omega arith, omega (arith, h.0.1)) in
    rw (taken, h.1) refl
number_read text None gives parses (e, read) =
    elim (cases_Bool (accepts false u64_parser text)) [
      | inl taken ↦ let h = accepts-Accepts false u64_parser text taken in absurd (parses (Err e) read (h.0, h.1))
      | inr refused ↦ rw refused refl
    ]

pub number_or_none : {E : Type 0} (o : Option Text) (r : Option ℕ) (gives : Text → Result ℕ E → Type 0)
    → ((text : Text) (x : Result ℕ E) → gives text x → ParsesUnsigned 64 10 text x)
    → (o ≡ None → r ≡ None) → ((text : Text) → o ≡ Some text → ReadsOne gives text r) → r ≡ and_then o number_of
number_or_none None r gives parses none value = none refl
number_or_none (Some text) r gives parses none value = number_read text r gives (parses text) (value text refl)

-- an error for another cause than memory comes only where something is at fault
pub none_among : (kinds : Kinds) (e : Error) → HasKind kinds e → (kind_of e ≡ OutOfMemory → ⊥) → kinds ≡ [] → ⊥
none_among [] e (inl memory) other none = other memory
none_among [] e (inr among) other none = among
none_among (k ∷ ks) e has other none = cc none
