-- `requests::read_request` meets its contract. Assumes nothing.
use mathlib.Core.Path.{refl, ◌∙◌}
use borrow.Author.Rules.{rules}
use lib.ListN.{drop}
use Rattle.requests.specs.Request.{letter_o, letter_a, letter_d, letter_g, letter_r, letter_q, letter_f, letter_s, by_letter}
use Rattle.meaning.specs.declared.Happening.TheVariants.{Allow, Deny, Given, Withdrawn}
use Rattle.requests.proofs.Made.{event-of-set, event-of-role}
use Rattle.requests.proofs.RequestLaws.{request-empty, request-letter, no-letter}
use Rattle.requests.proofs.read_request.Goals as goal

-- no letter, and none of those that begin a request
pub returns-in_default : goal.returns-in_default
returns-in_default c = request-empty c.args.line.now c.first.ensures.item c.in_default.is

pub returns-in_default-letter : goal.returns-in_default-letter
returns-in_default-letter c =
    let line = c.args.line.now in
    let letter = c.in-Some.letter.now in
    no-letter letter (drop 1 line) (λ e. search rules) (λ e. search rules) (λ e. search rules) (λ e. search rules) (λ e. search rules) (λ e. search rules) (λ e. search rules) (λ e. search rules)
    ∙ request-letter line c.first.ensures.item letter c.in-Some.is refl

pub returns-in-79 : goal.returns-in-79
returns-in-79 c = c.open_of.ensures ∙ request-letter c.args.line.now c.first.ensures.item letter_o c.in-Some.is c.in-79.is

pub returns-in-65 : goal.returns-in-65
unfolding by_letter
returns-in-65 c = event-of-set c.args.line.now Allow (λ x e m. search rules) c.permission_set.ensures c.event_of.ensures ∙ request-letter c.args.line.now c.first.ensures.item letter_a c.in-Some.is c.in-65.is

pub returns-in-68 : goal.returns-in-68
unfolding by_letter
returns-in-68 c = event-of-set c.args.line.now Deny (λ x e m. search rules) c.permission_set-in-68.ensures c.event_of-in-68.ensures ∙ request-letter c.args.line.now c.first.ensures.item letter_d c.in-Some.is c.in-68.is

pub returns-in-71 : goal.returns-in-71
unfolding by_letter
returns-in-71 c = event-of-role c.args.line.now Given (λ x e m. search rules) c.permission_role.ensures c.event_of-in-71.ensures ∙ request-letter c.args.line.now c.first.ensures.item letter_g c.in-Some.is c.in-71.is

pub returns-in-82 : goal.returns-in-82
unfolding by_letter
returns-in-82 c = event-of-role c.args.line.now Withdrawn (λ x e m. search rules) c.permission_role-in-82.ensures c.event_of-in-82.ensures ∙ request-letter c.args.line.now c.first.ensures.item letter_r c.in-Some.is c.in-82.is

pub returns-in-81 : goal.returns-in-81
returns-in-81 c = c.decide_of.ensures ∙ request-letter c.args.line.now c.first.ensures.item letter_q c.in-Some.is c.in-81.is

pub returns-in-70 : goal.returns-in-70
returns-in-70 c = c.forget_of.ensures ∙ request-letter c.args.line.now c.first.ensures.item letter_f c.in-Some.is c.in-70.is

pub returns-in-83 : goal.returns-in-83
returns-in-83 c = c.show_of.ensures ∙ request-letter c.args.line.now c.first.ensures.item letter_s c.in-Some.is c.in-83.is
