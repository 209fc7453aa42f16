use Rattle.std.proofs.Common.{◌≡◌, ◌∙◌, ◌↔◌, ◌&&◌, ◌∷◌, [], true, false, None, map, sym, ap, subst, rules}
use Rattle.tg_accept.specs.Declared.{theory}
use Rattle.tg_accept.specs.Meant.{AreMade}
use Rattle.tg_types.specs.Types.{ty, types}
use Rattle.tg_infer.specs.Made.{counts, is_made, are_made}
use Rattle.tg_infer.proofs.MadeLaws.{signature_tells}
use Rattle.tg_infer.proofs.typings.is_function_made.Goals as goal

pub returns-then-is_made : goal.returns-then-is_made
returns-then-is_made c =
    let D = c.args.declared.now in
    let s = c.args.f.now in
    let first : is_made (counts D None) s.params (ty s.result) ≡ true = search rules in
    let rest : c.are_made.result ≡ are_made (counts D None) s.params (types s.args) = search rules in
    subst (λ b. (b ≡ true) ↔ AreMade (theory [] D) s.params (ty s.result ∷ map ty s.args))
    (ap (λ b. b && are_made (counts D None) s.params (types s.args)) first ∙ sym rest) (signature_tells D s.params s.args s.result)

pub returns-else-is_made : goal.returns-else-is_made
returns-else-is_made c =
    let D = c.args.declared.now in
    let s = c.args.f.now in
    let first : is_made (counts D None) s.params (ty s.result) ≡ false = search rules in
    let here : c.is_made.result ≡ false = search rules in
    subst (λ b. (b ≡ true) ↔ AreMade (theory [] D) s.params (ty s.result ∷ map ty s.args))
    (ap (λ b. b && are_made (counts D None) s.params (types s.args)) first ∙ sym here) (signature_tells D s.params s.args s.result)
