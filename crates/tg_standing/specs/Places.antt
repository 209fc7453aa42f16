-- Where a term of a certificate stands, and what is asked of it there.
use Rattle.std.specs.Prelude.{◌≡◌, List, Option, Some, None}
use Rattle.tg_model.specs.Theory.{Theory}
use Rattle.tg_accept.specs.Cases.{EachCaseIn, AreOnce}
use Rattle.tg_accept.specs.Core.{EachCaseWhole}
use Rattle.tg_accept.specs.Kept.{IsKept}
use Rattle.tg_accept.specs.Meaning.{resolve}
use Rattle.tg_accept.specs.Raw.{Binder, RawTerm}
use Rattle.tg_accept.specs.Resolved.{Resolved}
use Rattle.tg_accept.specs.Standing.{certificate_scope}
use Rattle.tg_infer.specs.declared.binders.Binders.{Binders}
use Rattle.tg_infer.specs.Finding.{AreKept}
use Rattle.tg_infer.specs.Scopes.{scope_of}
use Rattle.tg_infer.specs.Words.{AreWordsOf}
use Rattle.tg_shared_types.specs.Growth.{AreDeclared}
use Rattle.tg_types.specs.Types.{types}
use Rattle.tg_standing.specs.declared.places.Place.{Place}

-- words are looked up in the theory, and no open type stands in those of the free variables
pub record IsPlace (p : Place) : Type 0 where
  pub scope : scope_of p.scope.now ≡ certificate_scope p.th.now
  pub words : AreWordsOf p.scope.now.words.now p.scope.now.declared.now
  pub kept : IsKept p.scope.now.declared.now
  pub vars : AreDeclared (types p.vars.now)

-- each word of the term means something, and each `case` has one branch for each constructor
pub record IsLookedUp (th : Theory) (locs : List Binder) (t : RawTerm) (r : Resolved) : Type 0 where
  pub is : resolve (certificate_scope th) locs t ≡ Some r
  pub whole : EachCaseWhole th r
  pub once : EachCaseIn AreOnce r

-- what there is, with the same variables bound, or that there is nothing
abbrev pub Gives : {A : Type 0} → Binders → Binders → (A → Type 0) → Option A → Type 0
Gives old new Is (Some x) = Is x × AreKept old new
Gives old new Is None = (x : _) → ¬ (Is x)
