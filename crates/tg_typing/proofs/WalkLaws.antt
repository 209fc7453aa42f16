-- The steps of the walk: arguments, then branches, one after another.
use Rattle.std.proofs.Common.{ℕ, zero, suc, ◌≡◌, ◌≢◌, ◌+◌, ◌<◌, ◌≤◌, Bool as Truth, true, false, List, [], ◌∷◌, ◌++◌, length, reverse, drop, get_or, refl, sym, ◌∙◌, ap, subst, arith}
use Rattle.std.specs.Prelude.{map, Option, Some, None}
use Rattle.std.proofs.Math.Seq.{drop-cons, drop-length}
use Rattle.std.proofs.lemmas.List.{reverse-append}
use Rattle.tg_model.specs.Types.{Ty}
use Rattle.tg_model.specs.Theory.{Theory, Function}
use Rattle.tg_model.specs.TermTyping.{Typing, Typings, ArmTypings, none, more, end, arm, type_of, types_of}
use Rattle.tg_types.specs.Substitutions.{Assignment}
use Rattle.tg_shared_types.specs.declared.nodes.Node.{Node}
use Rattle.tg_shared_types.specs.Nodes.{AreBelow}
use Rattle.tg_accept.specs.Resolved as model
use Rattle.tg_accept.specs.ResolvedTyping.{AreTypingsOf}
use Rattle.tg_term.specs.Operators.{operator}
use Rattle.tg_typing.specs.declared.resolved.Resolved.{Resolved}
use Rattle.tg_typing.specs.declared.resolved.Branch.{Branch}
use Rattle.tg_typing.specs.declared.contexts.Context.{Context}
use Rattle.tg_typing.specs.declared.framing.Used.{Used}
use Rattle.tg_typing.specs.declared.framing.Used.TheVariants.{Con, Call, Own, Put, If, Op}
use Rattle.tg_typing.specs.View.{resolved, all_resolved, branches, head, seen-Branch, Seen}
use Rattle.tg_typing.specs.Contexts.{theory_in, self_in}
use Rattle.tg_typing.specs.Growing.{IsImpossible, Outcome}
use Rattle.tg_typing.specs.Scopes.{Scope, IsScope, with_locs, HasTyping, HaveTypings, HaveBranchTypings}
use Rattle.tg_typing.specs.Uses.{Use, IsUsed, Framed, Frames}
use Rattle.tg_typing.specs.Frames.{use_term, IsUseOf}
use Rattle.tg_typing.specs.Cases.{BindsBranch}
use Rattle.tg_typing.specs.Walks.{scope_in, TypesTerm}
use Rattle.tg_typing.proofs.Turns.{stuck_first}
use Rattle.tg_typing.proofs.Scoped.{below_more, scope_more}
use Rattle.tg_typing.proofs.UseArms.{IsApplied, use_typed, none_typed, more_typed, more_untyped, make_instance, make_compound, con_applied, call_applied, own_applied, put_applied, choice_applied, op_applied}
use Rattle.tg_typing.proofs.CaseArm.{end_typed, branch_typed, body_untyped}

dropped : {A : Type 0} (xs : List A) (i : ℕ) (x : A) → i < length xs → x ≡ get_or xs i x → drop i xs ≡ x ∷ drop (i + 1) xs
dropped xs i x h e =
    drop-cons xs i x h ∙ (λ j. sym e j ∷ drop (suc i) xs) ∙ ap (λ k. x ∷ drop k xs) (let s : suc i ≡ i + 1 = omega arith in s)

below_drop : (n : ℕ) (ks : List ℕ) (i : ℕ) → AreBelow n ks → AreBelow n (drop i ks)
below_drop n ks zero b = b
below_drop n [] (suc i) b = tt
below_drop n (k ∷ ks) (suc i) b = below_drop n ks i b.1

pub below_at : (n : ℕ) (ks : List ℕ) (i k : ℕ) → AreBelow n ks → i < length ks → k ≡ get_or ks i k → k < n
below_at n [] i k b h e = absurd (omega (arith, h))
below_at n (l ∷ ks) zero k b h e = subst (λ x. x < n) (sym e) b.0
below_at n (l ∷ ks) (suc i) k b h e = below_at n ks i k b.1 (omega (arith, h)) e

-- what is left of the arguments leads to all of them
abbrev pub ArgumentsLead : Context → List ℕ → List Node → List Node → List Resolved → List ℕ → ℕ → Type 0
ArgumentsLead x locs mid now ts es i = (new : List Node) (ok : Truth) →
    Outcome now new Typings (HaveTypings (theory_in x) (self_in x) (scope_in x locs) (all_resolved (drop i ts)) (drop i es)) ok →
    Outcome mid new Typings (HaveTypings (theory_in x) (self_in x) (scope_in x locs) (all_resolved ts) es) ok

module _ (x : Context) (locs : List ℕ) (mid now next : List Node) (ts : List Resolved) (es : List ℕ) (i : ℕ) (t : Resolved) (e : ℕ) (hi : i < length ts)
    (hl : length es ≡ length ts) (ht : t ≡ get_or ts i t) (he : e ≡ get_or es i e) (scope : IsScope (length mid) (scope_in x locs))
    (below : AreBelow (length mid) es) (longer : length mid ≤ length now) (leads : ArgumentsLead x locs mid now ts es i) where
  left : all_resolved (drop i ts) ≡ model.more (resolved t) (all_resolved (drop (i + 1) ts))
  left = ap all_resolved (dropped ts i t hi ht)

  nodes_left : drop i es ≡ e ∷ drop (i + 1) es
  nodes_left = dropped es i e (omega (arith, hi, hl)) he

  back : (new : List Node) (ok : Truth) →
      Outcome now new Typings (HaveTypings (theory_in x) (self_in x) (scope_in x locs) (model.more (resolved t) (all_resolved (drop (i + 1) ts)))
      (e ∷ drop (i + 1) es)) ok → Outcome mid new Typings (HaveTypings (theory_in x) (self_in x) (scope_in x locs) (all_resolved ts) es) ok
  back new ok o =
      leads new ok
      (subst (λ us. Outcome now new Typings (HaveTypings (theory_in x) (self_in x) (scope_in x locs) us (drop i es)) ok) (sym left)
      (subst (λ ks. Outcome now new Typings (HaveTypings (theory_in x) (self_in x) (scope_in x locs)
      (model.more (resolved t) (all_resolved (drop (i + 1) ts))) ks) ok) (sym nodes_left) o))

  pub arguments_next : Outcome now next Typing (HasTyping (theory_in x) (self_in x) (scope_in x locs) (resolved t) e) true →
      ArgumentsLead x locs mid next ts es (i + 1)
  arguments_next first = λ new ok rest.
      back new ok
      (more_typed (theory_in x) (self_in x) (scope_in x locs) e now next new (drop (i + 1) es) ok (resolved t) (all_resolved (drop (i + 1) ts))
      (scope_more (length mid) (length now) (scope_in x locs) longer scope)
      (let b : e < length mid = below_at (length mid) es i e below (omega (arith, hi, hl)) he in omega arith) first rest
      (below_drop (length now) es (i + 1) (below_more (length mid) (length now) es longer below)))

  pub arguments_stop : IsImpossible now Typing (HasTyping (theory_in x) (self_in x) (scope_in x locs) (resolved t) e) →
      IsImpossible mid Typings (HaveTypings (theory_in x) (self_in x) (scope_in x locs) (all_resolved ts) es)
  arguments_stop fails =
      back [] false (more_untyped (theory_in x) (self_in x) (scope_in x locs) e now (drop (i + 1) es) (resolved t) (all_resolved (drop (i + 1) ts)) fails)

pub arguments_start : (x : Context) (locs : List ℕ) (mid : List Node) (ts : List Resolved) (es : List ℕ) → ArgumentsLead x locs mid mid ts es 0
arguments_start x locs mid ts es = λ new ok o. o

pub arguments_end : (x : Context) (locs : List ℕ) (mid now : List Node) (ts : List Resolved) (es : List ℕ) → length es ≡ length ts →
    ArgumentsLead x locs mid now ts es (length ts) →
    Outcome mid now Typings (HaveTypings (theory_in x) (self_in x) (scope_in x locs) (all_resolved ts) es) true
arguments_end x locs mid now ts es l leads =
    leads now true
    (subst (λ us. Outcome now now Typings (HaveTypings (theory_in x) (self_in x) (scope_in x locs) (all_resolved us) (drop (length ts) es)) true)
    (sym (drop-length ts))
    (subst (λ ks. Outcome now now Typings (HaveTypings (theory_in x) (self_in x) (scope_in x locs) model.none ks) true)
    (sym (ap (λ n. drop n es) (sym l) ∙ drop-length es)) (none_typed (theory_in x) (self_in x) (scope_in x locs) 0 now)))

-- another number of arguments
same_count : (th : Theory) (self : Option Function) (ps vars locs : List Ty) (ts : List Resolved) (ds : Typings) →
    AreTypingsOf th self ps vars locs (all_resolved ts) ds → length (types_of ds) ≡ length ts
same_count th self ps vars locs [] none w = refl
same_count th self ps vars locs [] (more d ds) w = absurd w
same_count th self ps vars locs (t ∷ ts) none w = absurd w
same_count th self ps vars locs (t ∷ ts) (more d ds) w = ap suc (same_count th self ps vars locs ts ds w.1)

length_map : (ρ : Assignment) (ls : List ℕ) → length (map ρ ls) ≡ length ls
length_map ρ [] = refl
length_map ρ (l ∷ ls) = ap suc (length_map ρ ls)

pub other_arguments : (x : Context) (locs : List ℕ) (mid : List Node) (ts : List Resolved) (es : List ℕ) → length es ≢ length ts →
    IsImpossible mid Typings (HaveTypings (theory_in x) (self_in x) (scope_in x locs) (all_resolved ts) es)
other_arguments x locs mid ts es other ρ ds f w =
    other (sym (length_map ρ es) ∙ sym (ap length w.1)
    ∙ same_count (theory_in x) (self_in x) (map ρ x.parameters) (map ρ x.vars) (map ρ (reverse locs)) ts ds w.0)

-- uses
abbrev make_of : Used → Use → Typings → Typing
make_of (Con c) = make_instance
make_of (Call f) = make_instance
make_of Own = make_instance
make_of Put = make_compound
make_of If = make_compound
make_of (Op o) = make_compound

applied_by : (th : Theory) (self : Option Function) (s : Scope) (ts : model.Resolveds) (used : Used) →
    IsApplied th self s (use_term used ts) ts (λ ρ. IsUseOf th self (map ρ s.parameters) used) (make_of used)
applied_by th self s ts (Con c) = con_applied th self s ts c
applied_by th self s ts (Call f) = call_applied th self s ts f
applied_by th self s ts Own = own_applied th self s ts
applied_by th self s ts Put = put_applied th self s ts
applied_by th self s ts If = choice_applied th self s ts
applied_by th self s ts (Op o) = op_applied th self s ts (operator o)

pub used_typed : (x : Context) (locs : List ℕ) (old mid new : List Node) (ts : List Resolved) (es : List ℕ) (used : Used) (e : ℕ) (ok : Truth) →
    IsScope (length old) (scope_in x locs) → Framed old mid (λ ρ. IsUseOf (theory_in x) (self_in x) (map ρ x.parameters) used) e es →
    Outcome mid new Typings (HaveTypings (theory_in x) (self_in x) (scope_in x locs) (all_resolved ts) es) ok →
    Outcome old new Typing (HasTyping (theory_in x) (self_in x) (scope_in x locs) (use_term used (all_resolved ts)) e) ok
used_typed x locs old mid new ts es used e ok scope frame second =
    use_typed (theory_in x) (self_in x) (scope_in x locs) e old mid new es ok (use_term used (all_resolved ts)) (all_resolved ts)
    (λ ρ. IsUseOf (theory_in x) (self_in x) (map ρ x.parameters) used) (make_of used)
    (applied_by (theory_in x) (self_in x) (scope_in x locs) (all_resolved ts) used) scope frame second

pub unused : (x : Context) (locs : List ℕ) (old : List Node) (ts : List Resolved) (used : Used) (e : ℕ) →
    IsImpossible old Use (IsUsed (λ ρ. IsUseOf (theory_in x) (self_in x) (map ρ x.parameters) used) e) →
    IsImpossible old Typing (HasTyping (theory_in x) (self_in x) (scope_in x locs) (use_term used (all_resolved ts)) e)
unused x locs old ts used e fails =
    let is = applied_by (theory_in x) (self_in x) (scope_in x locs) (all_resolved ts) used in
    stuck_first fails (λ ρ d f w.
    let b = is.back ρ d w.0 in
    (b.0, (b.2, sym (is.answers b.0 b.1) ∙ ap type_of b.5 ∙ w.1)))

-- what is left of the branches leads to all of them
abbrev pub BranchesLead : Context → List ℕ → ℕ → List ℕ → ℕ → List Node → List Node → List Branch → ℕ → Type 0
BranchesLead x locs n us e old now bs i = (new : List Node) (ok : Truth) →
    Outcome now new ArmTypings (HaveBranchTypings (theory_in x) (self_in x) (scope_in x locs) n us (branches (drop i bs)) e) ok →
    Outcome old new ArmTypings (HaveBranchTypings (theory_in x) (self_in x) (scope_in x locs) n us (branches bs) e) ok

pub inner_scope : (x : Context) (locs locs' ks : List ℕ) → locs' ≡ locs ++ ks → scope_in x locs' ≡ with_locs (scope_in x locs) (reverse ks ++ reverse locs)
inner_scope x locs locs' ks e = ap (λ l. with_locs (scope_in x locs) l) (ap reverse e ∙ reverse-append locs ks)

module _ (x : Context) (locs : List ℕ) (n : ℕ) (us : List ℕ) (e : ℕ) (old now mid : List Node) (bs : List Branch) (i : ℕ) (b : Branch) (hi : i < length bs)
    (hb : b ≡ get_or bs i b) (scope : IsScope (length old) (scope_in x locs)) (he : e < length old) (hus : AreBelow (length old) us)
    (longer : length old ≤ length now) (leads : BranchesLead x locs n us e old now bs i) where
  branches_left : branches (drop i bs) ≡ model.branch (head b.head) b.names (resolved b.body) (branches (drop (i + 1) bs))
  branches_left =
      ap branches (dropped bs i b hi hb)
      ∙ ap (λ (y : Seen). model.branch y.head y.names y.body (branches (drop (i + 1) bs))) (seen-Branch b)

  return : (new : List Node) (ok : Truth) →
      Outcome now new ArmTypings (HaveBranchTypings (theory_in x) (self_in x) (scope_in x locs) n us
      (model.branch (head b.head) b.names (resolved b.body) (branches (drop (i + 1) bs))) e) ok →
      Outcome old new ArmTypings (HaveBranchTypings (theory_in x) (self_in x) (scope_in x locs) n us (branches bs) e) ok
  return new ok o =
      leads new ok
      (subst (λ y. Outcome now new ArmTypings (HaveBranchTypings (theory_in x) (self_in x) (scope_in x locs) n us y e) ok) (sym branches_left) o)

  pub branches_stop : (locs' : List ℕ) → BindsBranch (theory_in x) now mid n us (head b.head) b.names locs locs' false →
      IsImpossible old ArmTypings (HaveBranchTypings (theory_in x) (self_in x) (scope_in x locs) n us (branches bs) e)
  branches_stop locs' fails = return [] false stop where
    stop : IsImpossible now ArmTypings (HaveBranchTypings (theory_in x) (self_in x) (scope_in x locs) n us
        (model.branch (head b.head) b.names (resolved b.body) (branches (drop (i + 1) bs))) e)
    stop ρ end f w = absurd w
    stop ρ (arm ts d ds) f w = fails ρ ts f w.0 w.1

  module _ (locs' : List ℕ) (binds : BindsBranch (theory_in x) now mid n us (head b.head) b.names locs locs' true) where
    pub branches_next : (next : List Node) → Outcome mid next Typing (HasTyping (theory_in x) (self_in x) (scope_in x locs') (resolved b.body) e) true →
        BranchesLead x locs n us e old next bs (i + 1)
    branches_next next second = λ new ok rest.
        return new ok
        (branch_typed (theory_in x) (self_in x) (scope_in x locs) n us e (head b.head) b.names (resolved b.body) (branches (drop (i + 1) bs)) now
        (scope_more (length old) (length now) (scope_in x locs) longer scope) (omega (arith, he, longer))
        (below_more (length old) (length now) us longer hus) mid next new binds.0 ok binds.1 binds.2
        (subst (λ s. Outcome mid next Typing (HasTyping (theory_in x) (self_in x) s (resolved b.body) e) true) (inner_scope x locs locs' binds.0 binds.3) second)
        rest)

    pub branches_fail : IsImpossible mid Typing (HasTyping (theory_in x) (self_in x) (scope_in x locs') (resolved b.body) e) →
        IsImpossible old ArmTypings (HaveBranchTypings (theory_in x) (self_in x) (scope_in x locs) n us (branches bs) e)
    branches_fail fails =
        return [] false
        (body_untyped (theory_in x) (self_in x) (scope_in x locs) n us e (head b.head) b.names (resolved b.body) (branches (drop (i + 1) bs)) now
        (scope_more (length old) (length now) (scope_in x locs) longer scope) (omega (arith, he, longer))
        (below_more (length old) (length now) us longer hus) mid binds.0 binds.1 binds.2
        (subst (λ s. IsImpossible mid Typing (HasTyping (theory_in x) (self_in x) s (resolved b.body) e)) (inner_scope x locs locs' binds.0 binds.3) fails))

pub branches_end : (x : Context) (locs : List ℕ) (n : ℕ) (us : List ℕ) (e : ℕ) (old now : List Node) (bs : List Branch) →
    BranchesLead x locs n us e old now bs (length bs) →
    Outcome old now ArmTypings (HaveBranchTypings (theory_in x) (self_in x) (scope_in x locs) n us (branches bs) e) true
branches_end x locs n us e old now bs leads =
    leads now true
    (subst (λ y. Outcome now now ArmTypings (HaveBranchTypings (theory_in x) (self_in x) (scope_in x locs) n us (branches y) e) true)
    (sym (drop-length bs)) (end_typed (theory_in x) (self_in x) (scope_in x locs) n us e now))

-- two more of the walk's steps, by the shapes of the code's facts
pub longer_when : (x : Context) (old new : List Node) (locs locs' : List ℕ) (t : model.Resolved) (e : ℕ) (ok : Truth) → ok ≡ true →
    TypesTerm x old new locs locs' t e ok → length old ≤ length new
longer_when x old new locs locs' t e true h o = o.0.grown.longer
longer_when x old new locs locs' t e false h o = cc h

pub when_true : {old new : List Node} {A : Type 0} {Asked : Assignment → A → Type 0} (ok : Truth) → ok ≡ true → Outcome old new A Asked ok →
    Outcome old new A Asked true
when_true true e o = o
when_true false e o = cc e

pub when_false : (x : Context) (old new : List Node) (locs locs' : List ℕ) (t : model.Resolved) (e : ℕ) (ok : Truth) → ok ≡ false →
    TypesTerm x old new locs locs' t e ok → IsImpossible old Typing (HasTyping (theory_in x) (self_in x) (scope_in x locs) t e)
when_false x old new locs locs' t e false h o = o.0
when_false x old new locs locs' t e true h o = cc h

pub no_frame : (old new : List Node) (Uses : Assignment → Use → Type 0) (e : ℕ) (found : Option (List ℕ)) → ((es : List ℕ) → found ≡ Some es → ⊥) →
    Frames old new Uses e found → IsImpossible old Use (IsUsed Uses e)
no_frame old new Uses e None other frame = frame
no_frame old new Uses e (Some es) other frame = absurd (other es refl)
