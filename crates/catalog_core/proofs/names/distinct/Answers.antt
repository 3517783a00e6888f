use Rattle.std.proofs.Common.{Bool, cond, ◌≡◌, ◌∙◌, true, false, sym, ap, refl, take}
use Rattle.std.specs.List.{list_any}
use Rattle.std.specs.Str.{bytes_eq}
use Rattle.catalog_core.specs.Texts.{Text}
use Rattle.catalog_core.specs.SeenNames.{is_seen}
use Rattle.catalog_core.proofs.NameLemmas.{repeats, goes_on, seen_more}
use Rattle.catalog_core.proofs.names.distinct.Goals as goal

pub returns-then-branch : goal.returns-then-branch
returns-then-branch c =
    let l = c.loop-place in
    let names = c.args.names.now in
    let name = c.index-names-place.result in
    let there : list_any (λ other. bytes_eq other.now c.as_str.result.now) (take l.place names) ≡ true =
    sym (l.invariant.seen c.as_str.result.now) ∙ sym c.in_ok-see.ensures.there ∙ c.if-branch.true in
    let found : list_any (λ other. bytes_eq other.now name.now) (take l.place names) ≡ true = rw c.as_str.ensures.text at there in
    let same : c.unwrap.result ≡ name.now = (rw c.unwrap.ensures at c.of.ensures.value) ∙ c.as_str-then-branch.ensures.text in
    λ _. rw (repeats names l.place name c.loop-place-test.true c.index-names-place.is found l.invariant.so_far) (rw same refl)

pub loop-place-preserved : goal.loop-place-preserved
loop-place-preserved c =
    let l = c.loop-place in
    let names = c.args.names.now in
    let name = c.index-names-place.result in
    let fresh : list_any (λ other. bytes_eq other.now c.as_str.result.now) (take l.place names) ≡ false =
    sym (l.invariant.seen c.as_str.result.now) ∙ sym c.in_ok-see.ensures.there ∙ c.if-branch.false in
    let none : list_any (λ other. bytes_eq other.now name.now) (take l.place names) ≡ false = rw c.as_str.ensures.text at fresh in
    record {
      seen = λ text. c.in_ok-see.ensures.adds text
          ∙ ap (λ (seen : Text). cond (bytes_eq seen text) true (is_seen l.seen text)) c.as_str.ensures.text
          ∙ ap (λ (there : Bool). cond (bytes_eq name.now text) true there) (l.invariant.seen text)
          ∙ seen_more names l.place name c.loop-place-test.true c.index-names-place.is text;
      so_far = goes_on names l.place name c.loop-place-test.true c.index-names-place.is none l.invariant.so_far;
    }
