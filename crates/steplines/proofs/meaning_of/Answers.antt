-- `steplines::meaning_of` meets its contract. Assumes nothing.
use Rattle.std.proofs.Common.{◌≡◌, rules, sym, ◌∙◌, arith}
use borrow.Author.Tests.{lt-ltb, le-ltb}
use Rattle.steplines.specs.StepLine.{meant, taken, started}
use Rattle.steplines.proofs.Lines.{step_long, meaning_comment, meaning_long, meaning_none, meaning_start, meaning_step, one_byte}
use Rattle.steplines.proofs.meaning_of.Goals as goal

pub returns-then-is_comment : goal.returns-then-is_comment
returns-then-is_comment c = meaning_comment _ (sym c.is_comment.ensures ∙ c.if-is_comment.true)

pub returns-then-line-gt-LONGEST : goal.returns-then-line-gt-LONGEST
returns-then-line-gt-LONGEST c = meaning_long _ (sym c.is_comment.ensures ∙ c.if-is_comment.false) (lt-ltb _ _ c.if-line-gt-LONGEST.true)

pub returns-in_default : goal.returns-in_default
returns-in_default c =
    let plain = sym c.is_comment.ensures ∙ c.if-is_comment.false in
    let short = le-ltb _ _ c.if-line-gt-LONGEST.false in
    meaning_none _ plain short c.in_default.ensures.steps.0

pub returns-then-is_word : goal.returns-then-is_word
returns-then-is_word c =
    let plain = sym c.is_comment.ensures ∙ c.if-is_comment.false in
    let short = le-ltb _ _ c.if-line-gt-LONGEST.false in
    let answer : meant c.ok_or.result ≡ started c.start_of.result = search rules in
    answer ∙ c.start_of.ensures ∙ meaning_start _ plain short _ _ c.in-Some.ensures.steps (sym c.is_word.ensures ∙ c.if-is_word.true)

pub returns-in-len1 : goal.returns-in-len1
returns-in-len1 c =
    let plain = sym c.is_comment.ensures ∙ c.if-is_comment.false in
    let short = le-ltb _ _ c.if-line-gt-LONGEST.false in
    let answer : meant c.ok_or-in-len1.result ≡ taken c.step_of.result = search rules in
    answer
    ∙ c.step_of.ensures
    ∙ rw (← one_byte c.in-Some.word.now c.in-len1.len_at_least c.in-len1.len_below)
    (meaning_step _ plain short _ _ c.in-Some.ensures.steps (sym c.is_word.ensures ∙ c.if-is_word.false))

pub returns-in_default-word : goal.returns-in_default-word
returns-in_default-word c =
    let plain = sym c.is_comment.ensures ∙ c.if-is_comment.false in
    let short = le-ltb _ _ c.if-line-gt-LONGEST.false in
    step_long c.in-Some.word.now _ (λ z. omega arith)
    ∙ meaning_step _ plain short _ _ c.in-Some.ensures.steps (sym c.is_word.ensures ∙ c.if-is_word.false)

pub returns-in_default-word-2 : goal.returns-in_default-word-2
returns-in_default-word-2 c =
    let plain = sym c.is_comment.ensures ∙ c.if-is_comment.false in
    let short = le-ltb _ _ c.if-line-gt-LONGEST.false in
    step_long c.in-Some.word.now _ (λ z. omega arith)
    ∙ meaning_step _ plain short _ _ c.in-Some.ensures.steps (sym c.is_word.ensures ∙ c.if-is_word.false)
