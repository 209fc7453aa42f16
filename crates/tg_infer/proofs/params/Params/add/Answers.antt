use Rattle.std.proofs.Common.{arith, ◌∙◌, ◌≡◌, ◌+◌, ◌<◌, List, [], ◌∷◌, ◌++◌, length, if◌then◌else◌, Some, None, Option, ℕ, refl, rules}
use Rattle.std.specs.Str.{bytes_eq}
use Rattle.indexmap.specs.IndexMap.{get}
use Rattle.tg_accept.specs.Meaning.{number_of}
use Rattle.tg_infer.proofs.ParamLaws.{placed_again, placed_new}
use Rattle.tg_infer.proofs.params.Params.add.Goals as goal

pub invariant_of-self-in-Some-number : goal.invariant_of-self-in-Some-number
invariant_of-self-in-Some-number c =
    let old = c.self.inside in
    let is : Some c.in-Some-number.field-0 ≡ number_of c.args.x.now old.names.items = search rules in
    let e : c.push.new.self.items ≡ old.names.items ++ c.args.x.now ∷ [] = search rules in
    let n : c.in-Some.number ≡ length old.names.items + 1 = search rules in
    let few : c.in-Some.number < 4294967296 = search rules in
    placed_again old (record { names = c.push.new.self; numbers = old.numbers }) c.args.x.now c.in-Some-number.field-0 c.self.invariant is e refl (omega (arith, n, few))

pub invariant_of-self-in-Ok : goal.invariant_of-self-in-Ok
invariant_of-self-in-Ok c =
    let old = c.self.inside in
    let none : None ≡ number_of c.args.x.now old.names.items = search rules in
    let e : c.push-2.new.self.items ≡ old.names.items ++ c.args.x.now ∷ [] = search rules in
    let n : c.in-Some.number ≡ length old.names.items + 1 = search rules in
    let few : c.in-Some.number < 4294967296 = search rules in
    let key : c.in_ok-name.name ≡ c.args.x.now = search rules in
    placed_new old (record { names = c.push-2.new.self; numbers = c.insert.new.self }) c.args.x.now c.in-Some.number c.self.invariant none e
    (λ y. c.in-Ok.ensures.updates.0 y ∙ (λ i. if bytes_eq (key i) y then Some c.in-Some.number else get bytes_eq old.numbers y)) n few
