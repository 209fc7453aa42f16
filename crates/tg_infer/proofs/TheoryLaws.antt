-- Declaration after declaration.
use Rattle.std.proofs.Common.{ℕ, suc, ◌≡◌, ◌+◌, ◌&&◌, Bool, true, false, List, [], ◌∷◌, length, map, drop, Option, Some, None, refl, sym, ◌∙◌, ap, subst, inl, inr, arith, if◌then◌else◌}
use Rattle.std.specs.Prelude.{slice_get, is_some}
use Rattle.tg_accept.specs.Checks as checks
use Rattle.tg_accept.specs.Checks.{First}
use Rattle.tg_accept.specs.Declared.{Declared, nothing, theory}
use Rattle.tg_accept.specs.Faults as faults
use Rattle.tg_accept.specs.Raw.{RawDeclaration}
use Rattle.tg_accept.specs.Theories.{checks_of, after, IsWhole, IsRefused, IsTheoryOf}
use Rattle.tg_model.specs.Theory.{Theory, Program}
use Rattle.tg_model.specs.Tree.{Tree}
use Rattle.tg_term.proofs.PartLaws.{drop_at}
use Rattle.tg_theory.specs.Causes.{IsCause, missing_fault}
use Rattle.tg_theory.specs.declared.errors.BuildErr.{BuildErr}
use Rattle.tg_theory.specs.declared.errors.BuildErr.TheVariants as builds
use Rattle.tg_theory.specs.Names.{AreNames}
use Rattle.tg_infer.specs.declared.refusals.Kind.TheVariants as kinds
use Rattle.tg_infer.specs.declared.refusals.Refusal.{Refusal}
use Rattle.tg_infer.specs.declared.refusals.Refusal.TheVariants as refusals
use Rattle.tg_infer.specs.declared.words.Words.{Words}
use Rattle.tg_infer.specs.Named.{names_declared, AreNamed}
use Rattle.tg_infer.specs.Refused.{IsFirst, IsDeclared}
use Rattle.tg_infer.specs.Theories.{refused_at, missing_at, IsRefusal}
use Rattle.tg_infer.specs.Words.{AreWordsOf}

-- what is said of the rest, where `D` is declared, is said of all
pub record Reaches (all rest : List RawDeclaration) (D : Declared) (n : ℕ) (words : Words) : Type 0 where
  pub named : AreNamed rest
  pub written : AreWordsOf words D
  pub accepted : (x : List ℕ) (th : Theory) → IsTheoryOf x D rest th → IsTheoryOf x nothing all th
  pub refused : (place : ℕ) (k : checks.Kind) → IsRefused D n rest place k → IsRefused nothing 1 all place k

pub begin_theory : (all : List RawDeclaration) (words : Words) → AreNamed all → AreWordsOf words nothing → Reaches all all nothing 1 words
begin_theory all words h w = record { named = h; written = w; accepted = λ x th p. p; refused = λ place k p. p }

pub one_declared : (all rest : List RawDeclaration) (x : RawDeclaration) (old new : Declared) (n : ℕ) (words named : Words) → Reaches all (x ∷ rest) old n words
    → IsDeclared old new named x → Reaches all rest new (suc n) named
one_declared all rest x old new n words named h d = record {
  named = h.named.1;
  written = d.words;
  accepted = λ y th p. h.accepted y th (d.pass, subst (λ D. IsTheoryOf y D rest th) d.is p);
  refused = λ place k p. h.refused place k (inr (d.pass, subst (λ D. IsRefused D (suc n) rest place k) d.is p));
}

pub one_refused : (all rest : List RawDeclaration) (x : RawDeclaration) (D : Declared) (n : ℕ) (words : Words) (r : Refusal) → Reaches all (x ∷ rest) D n words
    → IsFirst (checks_of D x) r → IsRefusal all (refused_at r n)
one_refused all rest x D n words (refusals.Fault kinds.TermSize) h f = h.refused n _ (inl (f, refl))
one_refused all rest x D n words (refusals.Fault kinds.Name) h f = h.refused n _ (inl (f, refl))
one_refused all rest x D n words (refusals.Fault kinds.Typing) h f = h.refused n _ (inl (f, refl))
one_refused all rest x D n words (refusals.Fault kinds.Ambiguous) h f = h.refused n _ (inl (f, refl))
one_refused all rest x D n words (refusals.Fault kinds.Shape) h f = h.refused n _ (inl (f, refl))
one_refused all rest x D n words (refusals.Fault kinds.Program) h f = h.refused n _ (inl (f, refl))
one_refused all rest x D n words refusals.Memory h f = tt

pub first_named : (all rest : List RawDeclaration) (x : RawDeclaration) (D : Declared) (n : ℕ) (words : Words) → Reaches all (x ∷ rest) D n words
    → AreNames (names_declared x)
first_named all rest x D n words h = h.named.0

-- a program and a specification are missing exactly where it is said so
is_whole : (D : Declared) → missing_fault D ≡ None → IsWhole D
is_whole D e = go D.program refl D.specification refl e
  where
    go : (p : Option Program) → D.program ≡ p → (s : Option Tree) → D.specification ≡ s
        → (if is_some p && is_some s then None else Some faults.program) ≡ None → IsWhole D
    go (Some p) f (Some s) g e = record { program = p; specification = s; has_program = f; has_specification = g }
    go (Some p) f None g e = cc e
    go None f s g e = cc e

isnt_whole : (D : Declared) → ¬ (missing_fault D ≡ None) → ¬ (IsWhole D)
isnt_whole D h w = h (λ i. if is_some (w.has_program i) && is_some (w.has_specification i) then None else Some faults.program)

pub all_accepted : (all : List RawDeclaration) (D : Declared) (n : ℕ) (words : Words) (x : List ℕ) (th : Theory) → Reaches all [] D n words → missing_fault D ≡ None
    → th ≡ theory x D → IsTheoryOf x nothing all th
all_accepted all D n words x th h e f = h.accepted x th (is_whole D e, f)

pub none_whole : (all : List RawDeclaration) (D : Declared) (n : ℕ) (words : Words) → Reaches all [] D n words → ¬ (missing_fault D ≡ None)
    → IsRefused nothing 1 all n checks.program
none_whole all D n words h e = h.refused n checks.program (isnt_whole D e, refl, refl)

pub missing_refused : (all : List RawDeclaration) (D : Declared) (n : ℕ) (words : Words) (e : BuildErr) → Reaches all [] D n words → IsCause (missing_fault D) e
    → IsRefusal all (missing_at e n)
missing_refused all D n words (builds.Name x) h c = none_whole all D n words h (λ f. let q : Some (faults.name x) ≡ None = sym c ∙ f in cc q)
missing_refused all D n words builds.Shape h c = none_whole all D n words h (λ f. let q : Some faults.shape ≡ None = sym c ∙ f in cc q)
missing_refused all D n words builds.Program h c = none_whole all D n words h (λ f. let q : Some faults.program ≡ None = sym c ∙ f in cc q)
missing_refused all D n words builds.Memory h c = tt

pub ruleset elaborating = (begin_theory)
