use Rattle.std.proofs.Common.{rules, ◌≡◌, true, false, sym, ◌∙◌, subst, ap}
use Rattle.std.specs.Str.{bytes_eq, IsUtf8}
use Rattle.std.specs.Fmt.{decimal}
use Rattle.std.proofs.lemmas.Str.{IsUtf8-from_ascii}
use Rattle.std.proofs.lemmas.Fmt.{parse-decimal, IsAscii-decimal}
use Rattle.std.proofs.lemmas.Slice.Eq.{bytes_eq-Decides}
use Rattle.script_fields.proofs.values.parsed.Goals as goal

pub returns-in_default-clause-none : goal.returns-in_default-clause-none
returns-in_default-clause-none c = λ n small same.
    c.in_default.ensures.cases.0 (subst IsUtf8 (sym same) (IsUtf8-from_ascii _ (IsAscii-decimal n small)))

pub returns-in_default-parse-clause-none : goal.returns-in_default-parse-clause-none
returns-in_default-parse-clause-none c = λ n small same.
    let here : c.in-Ok.text.now ≡ c.args.word.now = search rules in
    c.in_default-parse.not-Ok n (parse-decimal 64 n c.in-Ok.text.now c.parse.result small small (here ∙ same) c.parse.ensures.value.0)

pub returns-else-is_decimal-clause-none : goal.returns-else-is_decimal-clause-none
returns-else-is_decimal-clause-none c = λ n small same.
    let here : c.in-Ok.text.now ≡ c.args.word.now = search rules in
    let e = parse-decimal 64 n c.in-Ok.text.now c.parse.result small small (here ∙ same) c.parse.ensures.value.0 in
    let m : c.in-Ok-parse.number ≡ n = cc in
    let no = c.if-is_decimal.ensures in
    let yes : bytes_eq c.args.word.now (decimal c.in-Ok-parse.number) ≡ true = (bytes_eq-Decides _ _).1 (same ∙ ap decimal (sym m)) in
    let f : false ≡ true = no ∙ yes in
    cc
