-- `let`: the type of its variable is an open node, that of the term and then of the variable in the body.
use Rattle.std.proofs.Common.{ℕ, ◌≡◌, ◌<◌, Bool as Truth, true, false, List, [], ◌∷◌, ◌++◌, length, refl, sym, ◌∙◌, ap, subst, arith}
use Rattle.std.specs.Prelude.{map, Option}
use Rattle.tg_model.specs.Types.{Ty}
use Rattle.tg_model.specs.Theory.{Theory, Function}
use Rattle.tg_model.specs.TermTyping.{Typing, binding, type_of}
use Rattle.tg_types.specs.Substitutions.{Assignment}
use Rattle.tg_shared_types.specs.declared.nodes.Node.{Node}
use Rattle.tg_shared_types.specs.declared.nodes.Node.TheVariants.{Open}
use Rattle.tg_shared_types.specs.Nodes.{Fits, IsNodeTable}
use Rattle.tg_shared_types.proofs.NodeLaws.{pushed_length}
use Rattle.tg_accept.specs.Resolved.{Resolved, bind}
use Rattle.tg_accept.specs.ResolvedTyping.{IsTypingOf}
use Rattle.tg_typing.specs.Growing.{Agree, IsImpossible, Outcome}
use Rattle.tg_typing.specs.Scopes.{Scope, IsScope, HasTyping, with_locs}
use Rattle.tg_typing.proofs.Turns.{Makes, in_turn, stuck_first}
use Rattle.tg_typing.proofs.Opened.{opened}
use Rattle.tg_typing.proofs.Scoped.{moved, below_more}

module _ (th : Theory) (self : Option Function) (s : Scope) (t body : Resolved) (e : ℕ) (old : List Node) (table : IsNodeTable old)
    (scope : IsScope (length old) s) (he : e < length old) where
  -- typings of the term and of the body
  abbrev Both : Assignment → Typing × Typing → Type 0
  Both ρ x = HasTyping th self s t (length old) ρ x.0 × HasTyping th self (with_locs s (length old ∷ s.locs)) body e ρ x.1

  outer : Makes old (old ++ Open ∷ []) (λ ρ. ρ (length old)) (λ ρ u. Unit {0}) Both (λ u x. binding u (type_of x.1) x.0 x.1) (HasTyping th self s (bind t body) e)
  outer = record {
    there = λ ρ x f p q. ((q.0.0, sym q.0.1, q.1.0, refl), q.1.1);
    back = λ ρ d f w. split ρ d w;
    apart = λ ρ φ x y f g p p' q q' r.
        let a : ρ (length old) ≡ φ (length old) = cc r in
        let b : x.0 ≡ y.0 = cc r in
        let c : x.1 ≡ y.1 = cc r in
        (a, λ i. (b i, c i));
  } where
    split : (ρ : Assignment) (d : Typing) → HasTyping th self s (bind t body) e ρ d →
        (u : Ty) × Unit {0} × ((φ : Assignment) → Fits φ (old ++ Open ∷ []) → Agree (length old) φ ρ → φ (length old) ≡ u →
        (x : Typing × Typing) × Both φ x × (binding u (type_of x.1) x.0 x.1 ≡ d))
    split ρ (binding u v d b) w = (
      u,
      tt,
      λ φ f a r. (
        (d, b),
        (
          (moved s (λ ps vars locs. IsTypingOf th self ps vars locs t d) scope a w.0.0, sym w.0.1 ∙ sym r),
          (
            subst (λ x. IsTypingOf th self (map φ s.parameters) (map φ s.vars) (x ∷ map φ s.locs) body b) (sym r)
                (moved s (λ ps vars locs. IsTypingOf th self ps vars (u ∷ locs) body b) scope a w.0.2),
            sym w.0.3 ∙ w.1 ∙ sym (a.at e he),
          ),
        ),
        λ i. binding u (sym w.0.3 i) d b,
      ),
    )
    split ρ d w = absurd w.0

  pub bind_typed : (mid new : List Node) (ok : Truth) → Outcome (old ++ Open ∷ []) mid Typing (HasTyping th self s t (length old)) true →
      Outcome mid new Typing (HasTyping th self (with_locs s (length old ∷ s.locs)) body e) ok → Outcome old new Typing (HasTyping th self s (bind t body) e) ok
  bind_typed mid new ok first second =
      in_turn (opened old table) outer new ok (in_turn first.grown pair new ok second) where
        pair : Makes (old ++ Open ∷ []) mid first.read (HasTyping th self s t (length old)) (HasTyping th self (with_locs s (length old ∷ s.locs)) body e)
            (λ d b. (d, b)) Both
        pair = record {
          there = λ ρ b f p q. (p, q);
          back = λ ρ x f w. (
            x.0,
            w.0,
            λ φ g a r. (
              x.1,
              (
                moved (with_locs s (length old ∷ s.locs)) (λ ps vars locs. IsTypingOf th self ps vars locs body x.1) (
                  below_more (length old) (length (old ++ Open ∷ [])) s.parameters (omega (arith, pushed_length old Open)) scope.0,
                  below_more (length old) (length (old ++ Open ∷ [])) s.vars (omega (arith, pushed_length old Open)) scope.1,
                  (omega (arith, pushed_length old Open), below_more (length old) (length (old ++ Open ∷ [])) s.locs (omega (arith, pushed_length old Open)) scope.2),
                )
                    a w.1.0,
                w.1.1 ∙ sym (a.at e (omega (arith, he, pushed_length old Open))),
              ),
              refl,
            ),
          );
          apart = λ ρ φ b c f g p p' q q' r. (ap (λ x. x.0) r, ap (λ x. x.1) r);
        }

  pub bind_untyped : IsImpossible (old ++ Open ∷ []) Typing (HasTyping th self s t (length old)) → IsImpossible old Typing (HasTyping th self s (bind t body) e)
  bind_untyped fails =
      in_turn (opened old table) outer [] false (stuck_first fails (λ ρ x f w. (x.0, w.0)))
