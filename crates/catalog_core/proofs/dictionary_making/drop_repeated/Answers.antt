use Rattle.std.proofs.Common.{rules}
use Rattle.std.specs.Str.{bytes_eq}
use Rattle.std.proofs.lemmas.Fn.{dedup_same}
use Rattle.catalog_core.proofs.dictionary_making.drop_repeated.Goals as goal

pub returns-clause-kept : goal.returns-clause-kept
returns-clause-kept c = dedup_same _ bytes_eq _ (λ x y b f' x' y' k. search rules) c.args.texts.now.items c.dedup_by.new.self.items c.dedup_by.ensures.filtered
