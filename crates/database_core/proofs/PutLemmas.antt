-- Files of which some are set.
use Rattle.std.proofs.Common.{◌≡◌, ◌≢◌, ℕ, List, [], ◌∷◌, ◌++◌, inl, inr, Option, Some, refl, sym, ap, ◌∙◌}
use Rattle.std.proofs.lemmas.Bool.{cases_Bool, false_from_ne_true}
use Rattle.std.proofs.lemmas.Slice.Eq.{bytes_eq-Decides}
use Rattle.std.specs.Prelude.{cond}
use Rattle.std.specs.List.{AllByRecursion}
use Rattle.std.specs.Str.{bytes_eq}
use Rattle.stream_core.specs.Files.{Files}
use Rattle.database_core.specs.Saving.{File, put, puts}
use Rattle.database_core.specs.TableFiles.{Same}

pub put_there : (files : Files) (file : File) (name : List ℕ) → name ≡ file.name → put files file name ≡ Some file.bytes
put_there files file name same = rw ((bytes_eq-Decides name file.name).1 same)

pub put_other : (files : Files) (file : File) (name : List ℕ) → name ≢ file.name → put files file name ≡ files name
put_other files file name apart = rw (false_from_ne_true (bytes_eq name file.name) (λ e. apart ((bytes_eq-Decides name file.name).0 e)))

pub puts_other : (files : Files) (written : List File) (name : List ℕ) → AllByRecursion (λ (file : File). name ≢ file.name) written → puts files written name ≡ files name
puts_other files [] name apart = refl
puts_other files (file ∷ more) name apart = puts_other (put files file) more name apart.1 ∙ put_other files file name apart.0

pub puts-append : (files : Files) (first rest : List File) → puts files (first ++ rest) ≡ puts (puts files first) rest
puts-append files [] rest = refl
puts-append files (file ∷ first) rest = puts-append (put files file) first rest

pub same_put : (held files : Files) (file : File) → Same held files → Same (put held file) (put files file)
same_put held files file same = λ name. ap (λ (found : Option (List ℕ)). cond (bytes_eq name file.name) (Some file.bytes) found) (same name)

pub same_puts : (held files : Files) (written : List File) → Same held files → Same (puts held written) (puts files written)
same_puts held files [] same = same
same_puts held files (file ∷ more) same = same_puts (put held file) (put files file) more (same_put held files file same)

-- a file is what it is set to, and others are as they were
pub is_put : (before after : Files) (file : File) → after file.name ≡ Some file.bytes → ((name : List ℕ) → name ≢ file.name → after name ≡ before name) → Same after (put before file)
is_put before after file there others = λ name. elim (cases_Bool (bytes_eq name file.name)) [
  | inl is ↦
      let same : name ≡ file.name = (bytes_eq-Decides name file.name).0 is in
      ap after same ∙ there ∙ sym (put_there before file name same)
  | inr differ ↦
      let apart : name ≢ file.name = λ same. cc (sym differ ∙ (bytes_eq-Decides name file.name).1 same) in
      others name apart ∙ sym (put_other before file name apart)
]
