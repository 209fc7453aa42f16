-- Values that read as one value are equal, and so are those with one text.
use Rattle.std.proofs.Common.{◌≡◌, List, ◌∷◌, refl, ap, subst, ◌∙◌}
use Rattle.tg_model.specs.Theory.{Theory}
use Rattle.tg_model.specs.Value.{Value, Values, number, boolean, made, none, more}
use Rattle.tg_model.specs.Accepted.{IsAccepted}
use Rattle.tg_grammar.specs.declared.terms.RawTerm.{RawTerm}
use Rattle.tg_grammar.specs.Parts.{AnswerAtom}
use Rattle.tg_grammar.specs.Reading.{IsText}
use Rattle.tg_grammar.proofs.Readings.{one_value}
use Rattle.tg_theory.specs.Wholes.{IsWritten}
use Rattle.tg_render.specs.Render.{render}
use Rattle.tg_render.proofs.Forward.{told}
use Rattle.tg_report.specs.Names.{constructor_name}
use Rattle.tg_report.specs.ValueTexts.{value_tokens}
use Rattle.tg_report.specs.RawValues.{raw_value, raw_values, IsNamed, AreNamed}
use Rattle.tg_report.proofs.NamePlaces.{one_constructor}
use Rattle.tg_report.proofs.RawParts.{use_terms, use_name}
use Rattle.tg_report.proofs.ValueReading.{atom}

first : (a b : RawTerm) (xs ys : List RawTerm) → a ∷ xs ≡ b ∷ ys → a ≡ b
first a b xs ys e = cc

others : (a b : RawTerm) (xs ys : List RawTerm) → a ∷ xs ≡ b ∷ ys → xs ≡ ys
others a b xs ys e = cc

mutual
  same_value : (th : Theory) (v w : Value) → IsAccepted th → IsNamed th v → IsNamed th w → raw_value th v ≡ raw_value th w → v ≡ w
  same_value th (number m) (number n) a h k e = ap number cc
  same_value th (boolean b) (boolean c) a h k e = ap boolean cc
  same_value th (made c vs) (made d ws) a (s, h) (t, k) e =
      let head = one_constructor th c d a s t (use_name (constructor_name th c) (constructor_name th d) (raw_values th vs) (raw_values th ws) e) in
      let rest = same_values th vs ws a h k (use_terms (constructor_name th c) (constructor_name th d) (raw_values th vs) (raw_values th ws) e) in
      ap (λ z. made z vs) head ∙ ap (made d) rest
  same_value th v w a h k e = absurd cc

  same_values : (th : Theory) (vs ws : Values) → IsAccepted th → AreNamed th vs → AreNamed th ws → raw_values th vs ≡ raw_values th ws → vs ≡ ws
  same_values th none none a h k e = refl
  same_values th none (more w ws) a h k e = absurd cc
  same_values th (more v vs) none a h k e = absurd cc
  same_values th (more v vs) (more w ws) a (h, hs) (k, ks) e =
      let head = same_value th v w a h k (first (raw_value th v) (raw_value th w) (raw_values th vs) (raw_values th ws) e) in
      let rest = same_values th vs ws a hs ks (others (raw_value th v) (raw_value th w) (raw_values th vs) (raw_values th ws) e) in
      ap (λ z. more z vs) head ∙ ap (more w) rest

pub values_told : (th : Theory) (v w : Value) → IsAccepted th → IsWritten th → IsNamed th v → IsNamed th w
    → render (value_tokens th v) ≡ render (value_tokens th w) → v ≡ w
values_told th v w a written h k e =
    let p = atom th v written h in
    let q = atom th w written k in
    let same = told (value_tokens th v) (value_tokens th w) p.proper q.proper e in
    same_value th v w a h k
    (one_value AnswerAtom (raw_value th v) (raw_value th w) (value_tokens th w) (subst (IsText AnswerAtom (raw_value th v)) same p.read) q.read)
