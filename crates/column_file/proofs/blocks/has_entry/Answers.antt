use Rattle.std.proofs.Common.{eq-eqb, sym, ◌∙◌, arith}
use Rattle.std.proofs.lemmas.Bool.{eqb-true}
use Rattle.column_file.proofs.EntryLemmas.{entry_cut, entry_from, entry_is}
use Rattle.column_file.proofs.blocks.has_entry.Goals as goal

pub returns-then-bytes-word : goal.returns-then-bytes-word
returns-then-bytes-word c = (λ yes. absurd cc, λ is. absurd (entry_cut c.args.bytes.now c.args.block c.args.place c.if-bytes-word.true is))

pub returns : goal.returns
returns c = (
  λ same. entry_from c.args.bytes.now c.args.block c.args.place (λ k. omega (arith, (c.type_inv.bytes k).fits)) c.if-bytes-word.false (sym c.word_at.ensures ∙ eqb-true c.word_at.result c.args.place same),
  λ is. eq-eqb c.word_at.result c.args.place (c.word_at.ensures ∙ entry_is c.args.bytes.now c.args.block c.args.place (omega (arith, c.ranges.place.fits)) is),
)
