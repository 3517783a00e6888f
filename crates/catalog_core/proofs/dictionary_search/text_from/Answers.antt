use Rattle.std.proofs.Common.{◌≡◌, ◌∙◌, ap, take, drop}
use Rattle.std.specs.Int.{from_le_bytes, w32}
use Rattle.std.proofs.lemmas.List.{drop-drop}
use Rattle.catalog_core.proofs.dictionary_search.text_from.Goals as goal

pub returns : goal.returns
returns c =
    let bytes = c.args.bytes.now in
    let start = c.args.start in
    let rest = c.rest_from-rest.result.now in
    let long : c.first_length.result ≡ from_le_bytes w32 (take 4 (drop start bytes)) = c.first_length.ensures ∙ ap (λ l. from_le_bytes w32 (take 4 l)) c.rest_from-rest.ensures in
    c.first_bytes.ensures ∙ ap (λ n. take n (drop 4 rest)) long ∙ ap (λ l. take (from_le_bytes w32 (take 4 (drop start bytes))) (drop 4 l)) c.rest_from-rest.ensures
    ∙ ap (take (from_le_bytes w32 (take 4 (drop start bytes)))) (drop-drop 4 start bytes)
