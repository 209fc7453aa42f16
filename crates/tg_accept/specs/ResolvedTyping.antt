-- Typings of resolved terms. They are the trees of types that typings of core terms are.
use Rattle.std.specs.Prelude.{ℕ, ◌≡◌, ◌++◌, List, [], ◌∷◌, map, reverse, length, Option, Some, option_map, slice_get}
use Rattle.tg_model.specs.Types.{Ty, nat, bool, applied, tys}
use Rattle.tg_model.specs.Theory.{Theory, Function, Owned, constructor_at, numbered, instance}
use Rattle.tg_model.specs.TermTyping.{Typing, Typings, ArmTypings, leaf, instanced, compound, branching, binding, none, more, end, arm, type_of, types_of, IsOperation, IsDatatype, datatype_at}
use Rattle.tg_accept.specs.Resolved as resolved
use Rattle.tg_accept.specs.Resolved.{Head, zero_head, successor_head, of, Resolved, Resolveds, Branches, bound, free, literal, truth, con, call, own, misused, put, choice, case, bind, op, branch}

-- the datatype that a branch belongs to (0 for nat), and the types of its variables at the instance `us`
abbrev pub head_at : Theory → List Ty → Head → Option (ℕ × List Ty)
head_at th us zero_head = Some (0, [])
head_at th us successor_head = Some (0, nat ∷ [])
head_at th us (of c) = option_map (λ (o : Owned). (o.datatype, map (instance us) o.constructor.arguments)) (constructor_at th c)

-- `self` is the function that is being declared, if it is one that may call itself, and `ps` the types that stand for its type
-- parameters there: the parameters themselves
module _ (th : Theory) (self : Option Function) (ps vars : List Ty) where
  abbrev mutual
    pub IsTypingOf : List Ty → Resolved → Typing → Type 0
    IsTypingOf locs (bound k) (leaf t) = slice_get locs k ≡ Some t
    IsTypingOf locs (free n) (leaf t) = numbered vars n ≡ Some t
    IsTypingOf locs (literal n) (leaf t) = t ≡ nat
    IsTypingOf locs (truth b) (leaf t) = t ≡ bool
    IsTypingOf locs (con c ts) (instanced us t ds) =
        (o : Owned) × (constructor_at th c ≡ Some o) × IsDatatype th o.datatype us × (t ≡ applied o.datatype (tys us))
        × (types_of ds ≡ map (instance us) o.constructor.arguments) × AreTypingsOf locs ts ds
    IsTypingOf locs (call f ts) (instanced us t ds) =
        (x : Function) × (numbered th.functions f ≡ Some x) × (length us ≡ x.parameters) × (t ≡ instance us x.answer)
        × (types_of ds ≡ map (instance us) x.arguments) × AreTypingsOf locs ts ds
    IsTypingOf locs (own ts) (instanced us t ds) =
        (x : Function) × (self ≡ Some x) × (us ≡ ps) × (t ≡ instance us x.answer)
        × (types_of ds ≡ map (instance us) x.arguments) × AreTypingsOf locs ts ds
    IsTypingOf locs (put ts) (compound t ds) = (t ≡ th.program.answer) × (types_of ds ≡ th.program.inputs) × AreTypingsOf locs ts ds
    IsTypingOf locs (choice ts) (compound t ds) = (types_of ds ≡ bool ∷ t ∷ t ∷ []) × AreTypingsOf locs ts ds
    IsTypingOf locs (op o ts) (compound t ds) = IsOperation o (types_of ds) t × AreTypingsOf locs ts ds
    IsTypingOf locs (case n t bs) (branching us u d arms) =
        IsDatatype th n us × (type_of d ≡ datatype_at n us) × IsTypingOf locs t d × AreBranchTypings locs n us u bs arms
    IsTypingOf locs (bind t body) (binding u v d e) =
        IsTypingOf locs t d × (u ≡ type_of d) × IsTypingOf (u ∷ locs) body e × (v ≡ type_of e)
    IsTypingOf locs _ _ = ⊥

    pub AreTypingsOf : List Ty → Resolveds → Typings → Type 0
    AreTypingsOf locs resolved.none none = Unit {0}
    AreTypingsOf locs (resolved.more t ts) (more d ds) = IsTypingOf locs t d × AreTypingsOf locs ts ds
    AreTypingsOf locs _ _ = ⊥

    -- each branch belongs to datatype `n`, has as many variables as its constructor has arguments, and a body of type `u`
    pub AreBranchTypings : List Ty → ℕ → List Ty → Ty → Branches → ArmTypings → Type 0
    AreBranchTypings locs n us u resolved.end end = Unit {0}
    AreBranchTypings locs n us u (branch head xs body bs) (arm ts d arms) =
        (head_at th us head ≡ Some (n, ts)) × (length xs ≡ length ts) × IsTypingOf (reverse ts ++ locs) body d × (type_of d ≡ u)
        × AreBranchTypings locs n us u bs arms
    AreBranchTypings locs n us u _ _ = ⊥
