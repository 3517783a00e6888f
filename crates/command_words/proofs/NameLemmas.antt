-- That the program's name before the words changes nothing.
use Rattle.std.proofs.Common.{◌≡◌, ◌∙◌, Bool, false, List, [], ◌∷◌, codes, refl, sym, ap, ap₂, is_some}
use Rattle.clap.specs.Words.{App, Text, Kinds, fault_of, matches_of}
use Rattle.clap.specs.Simple.{Shape, argument_words, built, entered}
use Rattle.clap.specs.Kinds.{or_else}
use Rattle.clap.specs.Walk.{Held, Names, Walk, nothing_held, walk, walk_from, walked}
use Rattle.clap.specs.Faults.{built_fault, entered_fault, level_fault, turn_fault, walk_fault}
use Rattle.command_words.specs.Words.{NameChangesNothing, named_program, program}

-- no fault of a shape depends on whether the words begin with a name
walk_fault-unnamed : (shape : Shape) (unnamed : Bool) (names : Names) (at : Walk) (words : List Text)
    → walk_fault (record shape { no_binary_name = unnamed }) names at words ≡ walk_fault shape names at words
unfolding walk_fault
walk_fault-unnamed shape unnamed names at [] = refl
walk_fault-unnamed shape unnamed names at (word ∷ rest) =
    ap (or_else (turn_fault shape names at word)) (walk_fault-unnamed shape unnamed names (walked shape.rules names at word) rest)

level_fault-unnamed : (shape : Shape) (unnamed : Bool) (names : Names) (held : Held) (words : List Text) (has_subcommand : Bool) (below : Kinds)
    → level_fault (record shape { no_binary_name = unnamed }) names held words has_subcommand below ≡ level_fault shape names held words has_subcommand below
level_fault-unnamed shape unnamed names held words has_subcommand below = rw (walk_fault-unnamed shape unnamed names (walk_from held) words) refl

-- the command alone, without subcommands
lone : Shape → App
lone shape = record { top = shape; subs = [] }

-- the faults of a built command at the words after the name
faults : App → List Text → Kinds
faults app words = built_fault app nothing_held words

fault_of-faults : (app : App) (words : List Text) → fault_of app words ≡ faults (built app) (argument_words app words)
unfolding faults
fault_of-faults app words = refl

faults-unnamed : (shape : Shape) (unnamed : Bool) (words : List Text) → faults (lone (record shape { no_binary_name = unnamed })) words ≡ faults (lone shape) words
unfolding faults lone
faults-unnamed shape unnamed words =
    let stop = (walk shape.rules [] nothing_held words).stopped in
    let app : App = record { top = shape; subs = [] } in
    level_fault-unnamed shape unnamed [] nothing_held words (is_some (entered app stop)) (entered_fault app stop)

built-named : built named_program ≡ lone (record (built program).top { no_binary_name = false })
unfolding named_program program lone
built-named = refl

built-program : built program ≡ lone (built program).top
unfolding program lone
built-program = refl

words-named : (words : List Text) → argument_words named_program (codes "morphq" ∷ words) ≡ words
unfolding named_program
words-named words = refl

words-program : (words : List Text) → argument_words program words ≡ words
unfolding program
words-program words = refl

fault_of-named : (words : List Text) → fault_of named_program (codes "morphq" ∷ words) ≡ fault_of program words
fault_of-named words =
    fault_of-faults named_program (codes "morphq" ∷ words)
    ∙ ap₂ faults built-named (words-named words)
    ∙ faults-unnamed (built program).top false words
    ∙ sym (ap₂ faults built-program (words-program words))
    ∙ sym (fault_of-faults program words)

matches_of-named : (words : List Text) → matches_of named_program (codes "morphq" ∷ words) ≡ matches_of program words
unfolding named_program program
matches_of-named words = refl

pub name_changes_nothing : NameChangesNothing
name_changes_nothing words = rw (fault_of-named words, matches_of-named words) refl
