-- Clauses that close: those with the literals of one that closes, tautologies, and the clause of a class that is known.
use Rattle.std.proofs.Common.{◌≡◌, Bool, true, false, not, List, [], ◌∷◌, map, refl, sym, ap, subst, inl, inr, if◌then◌else◌}
use Rattle.std.specs.List.{filter, list_any}
use Rattle.tg_model.specs.Tree.{Tree, op, one, two, negation, disjunction}
use Rattle.tg_model.specs.Types.{bool}
use Rattle.tg_model.specs.Formula.{Formula, atom}
use Rattle.tg_model.specs.Theory.{Theory}
use Rattle.tg_model.specs.Calls.{has_call}
use Rattle.tg_model.specs.Accepted.{IsAmong}
use Rattle.tg_model.proofs.Booleans.{or_cases, and_left, and_right}
use Rattle.tg_accept.specs.Checks.{Each}
use Rattle.tg_clause.specs.declared.literals.Literal.{Literal}
use Rattle.tg_clause.specs.Clauses.{Clause, opposite, same_literal, has, is_tautology, clauses_of, sides}
use Rattle.tg_clause.specs.Minimal.{is_part, minimised}
use Rattle.tg_clause.specs.Classes.{term_of, constraints_of, checks_of}
use Rattle.tg_clause.specs.Laws.{AtomsOf}
use Rattle.tg_clause.proofs.LiteralLaws.{same_is}
use Rattle.tg_clause.proofs.EachLaws.{each_kept}
use Rattle.tg_hyps.specs.Hypotheses.{some_of, if_all}
use Rattle.tg_derive.proofs.EachLaws.{each_among}
use Rattle.tg_calculus.specs.Sequent.{Context, Hypotheses}
use Rattle.tg_calculus.specs.Step.{IsContext, IsTerm}
use Rattle.tg_calculus.specs.Theorem.{Follows}
use Rattle.tg_calculus.proofs.DerivedRules.{widened, detached}
use Rattle.tg_derive.proofs.TruthLines.{truth_typed, denied_typed, operated_typed, signed, Absurd, clash, by_negation, by_table, either_way, first_known, within_more}
use Rattle.tg_derive.proofs.ClauseLines.{AreDenied, denied_widened, Closes, by_sides, each_filtered}
use Rattle.tg_derive.proofs.MinimalParts.{from_minimal}

module _ (th : Theory) (G : Context) (closed : IsContext th G) where
  -- a literal that stands in a denied clause is denied
  denied_at : (K : Hypotheses) (c : Clause) (l : Literal) → has c l ≡ true → AreDenied th G closed K c → Follows th G K (signed (not l.positive) l.atom)
  denied_at K [] l e d = absurd (cc e)
  denied_at K (m ∷ c) l e d = elim (or_cases (same_literal l m) (has c l) e) [
    | inl f ↦ subst (λ (x : Literal). Follows th G K (signed (not x.positive) x.atom)) (sym (same_is l m f)) d.0
    | inr f ↦ denied_at K c l f d.1
  ]

  part_denied : (K : Hypotheses) (d c : Clause) → is_part d c ≡ true → AreDenied th G closed K c → AreDenied th G closed K d
  part_denied K [] c e h = tt
  part_denied K (l ∷ d) c e h = (denied_at K c l (and_left (has c l) (is_part d c) e) h, part_denied K d c (and_right (has c l) (is_part d c) e) h)

  -- where the minimal clauses close, all do
  pub minimal_close : (H : Hypotheses) (cs : List Clause) → Each (Closes th G closed H) (minimised cs) → Each (Closes th G closed H) cs
  minimal_close H cs h = from_minimal (Closes th G closed H) (λ d c e close K w k. close K w (part_denied K d c e k)) cs h

  abbrev AreTruths : Clause → Type 0
  AreTruths c = AtomsOf (λ t. IsTerm th G t bool) c

  tautology_closes : (H : Hypotheses) (c all : Clause) → AreTruths c → list_any (λ l. has all (opposite l)) c ≡ true → (K : Hypotheses)
      → AreDenied th G closed K c → AreDenied th G closed K all → Absurd th G closed K
  tautology_closes H [] all t e K d k = absurd (cc e)
  tautology_closes H (l ∷ c) all t e K d k = elim (or_cases (has all (opposite l)) (list_any (λ m. has all (opposite m)) c) e) [
    | inl f ↦ clash th G closed (not l.positive) l.atom t.0 d.0 (denied_at K all (opposite l) f k)
    | inr f ↦ tautology_closes H c all t.1 f K d.1 k
  ]

  -- where the clauses of a term close, it follows
  pub by_clauses : (H : Hypotheses) (t : Tree) → IsTerm th G t bool → Each (AtomsOf (λ u. IsTerm th G u bool)) (sides t).positive.list
      → Each (Closes th G closed H) (clauses_of t) → Follows th G H (atom t)
  by_clauses H t typed atoms close = by_sides th G closed t typed true H (λ c i. all c i (is_tautology c) refl)
    where
      all : (c : Clause) → IsAmong c (sides t).positive.list → (b : Bool) → is_tautology c ≡ b → Closes th G closed H c
      all c i true e K w d = tautology_closes H c c (each_among (AtomsOf (λ u. IsTerm th G u bool)) (sides t).positive.list c atoms i) e K d d
      all c i false e K w d =
          each_among (λ x. not (is_tautology x) ≡ true → Closes th G closed H x) (sides t).positive.list c
          (each_kept (Closes th G closed H) (λ x. not (is_tautology x)) (sides t).positive.list close) i (ap not e) K w d

  -- what a literal, or its opposite, says as a term
  said_term : (K : Hypotheses) (b : Bool) (t : Tree) → Follows th G K (signed b t) → Follows th G K (atom (if b then t else op negation (one t)))
  said_term K true t p = p
  said_term K false t p = p

  term_denied : (K : Hypotheses) (b : Bool) (t : Tree) → IsTerm th G t bool → Follows th G K (signed (not b) t)
      → Follows th G K (signed false (if b then t else op negation (one t)))
  term_denied K true t typed p = p
  term_denied K false t typed p = by_negation th G closed true t typed p

  term_typed : (b : Bool) (t : Tree) → IsTerm th G t bool → IsTerm th G (if b then t else op negation (one t)) bool
  term_typed true t h = h
  term_typed false t h = denied_typed th G t h

  pub some_typed : (ls : Clause) → AreTruths ls → IsTerm th G (some_of (map term_of ls)) bool
  some_typed [] t = truth_typed th G false
  some_typed (l ∷ []) t = term_typed l.positive l.atom t.0
  some_typed (l ∷ m ∷ ls) t =
      operated_typed th G disjunction tt (term_of l) (some_of (map term_of (m ∷ ls))) (term_typed l.positive l.atom t.0) (some_typed (m ∷ ls) t.1)

  -- one of some terms that are all false
  none_of : (K : Hypotheses) (ls : Clause) → AreTruths ls → AreDenied th G closed K ls → Follows th G K (atom (some_of (map term_of ls)))
      → Absurd th G closed K
  none_of K [] t d p = p
  none_of K (l ∷ []) t d p =
      clash th G closed true (term_of l) (term_typed l.positive l.atom t.0) p (term_denied K l.positive l.atom t.0 d.0)
  none_of K (l ∷ m ∷ ls) t d p =
      let rest = some_of (map term_of (m ∷ ls)) in
      let tl = term_typed l.positive l.atom t.0 in
      let tr = some_typed (m ∷ ls) t.1 in
      let R = signed true rest ∷ K in
      let N = signed false rest ∷ K in
      either_way th G closed true rest tr
      (none_of R (m ∷ ls) t.1 (denied_widened th G closed K R (m ∷ ls) (within_more (signed true rest) K) d.1) (first_known th G closed true rest K tr))
      (clash th G closed true (op disjunction (two (term_of l) rest)) (operated_typed th G disjunction tt (term_of l) rest tl tr)
      (widened th G (within_more (signed false rest) K) p)
      (by_table th G closed disjunction tt false false (term_of l) rest tl tr
      (widened th G (within_more (signed false rest) K) (term_denied K l.positive l.atom t.0 d.0)) (first_known th G closed false rest K tr)))

  constraints_go : (K : Hypotheses) (ls : Clause) (F : Formula) → AreDenied th G closed K ls
      → Follows th G K (if_all (map (λ (l : Literal). term_of (opposite l)) ls) F) → Follows th G K F
  constraints_go K [] F d p = p
  constraints_go K (l ∷ ls) F d p = constraints_go K ls F d.1 (detached th G p (said_term K (not l.positive) l.atom d.0))

  -- the clause of a class that is known closes
  pub class_closes : (H : Hypotheses) (c : Clause) → AtomsOf (λ u. IsTerm th G u bool) c
      → Follows th G H (if_all (constraints_of c) (atom (some_of (checks_of c)))) → Closes th G closed H c
  class_closes H c t p K w d =
      let D = λ (l : Literal). Follows th G K (signed (not l.positive) l.atom) in
      none_of K (filter (λ (l : Literal). has_call l.atom) c) (each_filtered (λ (l : Literal). IsTerm th G l.atom bool) (λ (l : Literal). has_call l.atom) c t)
      (each_filtered D (λ (l : Literal). has_call l.atom) c d)
      (constraints_go K (filter (λ (l : Literal). not (has_call l.atom)) c) (atom (some_of (checks_of c)))
      (each_filtered D (λ (l : Literal). not (has_call l.atom)) c d) (widened th G w p))
