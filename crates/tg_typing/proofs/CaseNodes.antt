-- The nodes of a `case` and of its branches.
use Rattle.std.proofs.Common.{ℕ, zero, suc, ◌≡◌, ◌≢◌, false, List, [], ◌∷◌, ◌++◌, length, refl, sym, ◌∙◌, ap, subst, arith}
use Rattle.std.specs.Prelude.{map, Some, option_map}
use Rattle.tg_model.specs.Types.{Ty, applied}
use Rattle.tg_model.specs.Theory.{Theory, Owned, constructor_at, instance}
use Rattle.tg_model.specs.TermTyping.{datatype_at}
use Rattle.tg_types.specs.declared.types.Ty as declared
use Rattle.tg_types.specs.Types.{ty, types}
use Rattle.tg_types.specs.Substitutions.{Assignment}
use Rattle.tg_shared_types.specs.declared.nodes.Node.{Node}
use Rattle.tg_shared_types.specs.declared.nodes.Node.TheVariants.{Open, Nat, App}
use Rattle.tg_shared_types.specs.Nodes.{Says, AreBelow, Names, IsNodeTable}
use Rattle.tg_shared_types.specs.Growth.{PlantsAll}
use Rattle.tg_shared_types.proofs.NodeLaws.{pushed_length}
use Rattle.tg_shared_types.proofs.GrowthLaws.{grows_pushed, pushed_says}
use Rattle.tg_accept.specs.Resolved.{Head, successor_head, of}
use Rattle.tg_accept.specs.ResolvedTyping.{head_at}
use Rattle.tg_accept.proofs.Aligned.{second}
use Rattle.tg_typing.specs.Growing.{Agree, Grown}
use Rattle.tg_typing.specs.Nodes.{AreOpened}
use Rattle.tg_typing.specs.Frames.{parameters_of}
use Rattle.tg_typing.specs.Cases.{HeadNodes, CaseNodes, BindsBranch}
use Rattle.tg_typing.proofs.Turns.{grown_on, same_types}
use Rattle.tg_typing.proofs.Scoped.{below_more}
use Rattle.tg_typing.proofs.FrameLaws.{listed, planted_types, to_datatype, from_datatype}

case_nodes : (th : Theory) (n k : ℕ) (old mid new : List Node) (us : List ℕ) (whole : ℕ) (node : Node) → parameters_of th.datatypes n ≡ Some k →
    AreOpened old mid us k → IsNodeTable mid → Names (length mid) (length mid) node → node ≢ Open →
    ((ρ : Assignment) → Says ρ (length mid) node → ρ (length mid) ≡ datatype_at n (map ρ us)) → new ≡ mid ++ node ∷ [] → whole ≡ length mid →
    CaseNodes th n old new us whole
case_nodes th n k old mid new us whole node params opens table names shut reads pushed place =
    subst (λ x. CaseNodes th n old x us whole) (sym pushed) (subst (λ x. CaseNodes th n old (mid ++ node ∷ []) us x) (sym place) (record {
      grown = record {
        longer = g.longer;
        older = g.older;
        sound = λ ρ f. to_datatype th n k (map ρ us) params (g.sound ρ f);
        complete = λ ρ ts f w. g.complete ρ ts f (from_datatype th n k ts params w);
        determined = g.determined;
        local = g.local;
      };
      below = below_more (length mid) (length (mid ++ node ∷ [])) us (omega (arith, pushed_length mid node)) opens.0;
      inside = omega (arith, pushed_length mid node);
      reads = λ ρ f. reads ρ (pushed_says mid node table names ρ f);
    }))
  where
    g : Grown old (mid ++ node ∷ []) (List Ty) (λ ρ. map ρ us) (λ ρ ts. length ts ≡ k)
    g = grown_on opens.1 (grows_pushed mid node table names shut)

pub case_of_nat : (th : Theory) (n k : ℕ) (old mid new : List Node) (us : List ℕ) (whole : ℕ) → n ≡ 0 → parameters_of th.datatypes n ≡ Some k →
    AreOpened old mid us k → IsNodeTable mid → new ≡ mid ++ Nat ∷ [] → whole ≡ length mid → CaseNodes th n old new us whole
case_of_nat th zero k old mid new us whole e params opens table pushed place =
    case_nodes th zero k old mid new us whole Nat params opens table tt (λ o. cc) (λ ρ s. s) pushed place
case_of_nat th (suc d) k old mid new us whole e params opens table pushed place = absurd (omega (arith, e))

pub case_of_data : (th : Theory) (n k : ℕ) (old mid new : List Node) (us args : List ℕ) (whole : ℕ) → n ≢ 0 → parameters_of th.datatypes n ≡ Some k →
    AreOpened old mid us k → IsNodeTable mid → args ≡ us → new ≡ mid ++ App n args ∷ [] → whole ≡ length mid → CaseNodes th n old new us whole
case_of_data th zero k old mid new us args whole e params opens table same pushed place = absurd (e refl)
case_of_data th (suc d) k old mid new us args whole e params opens table same pushed place =
    case_nodes th (suc d) k old mid new us whole (App (suc d) us) params opens table opens.0 (λ o. cc) (λ ρ s. s ∙ ap (applied (suc d)) (listed ρ us))
    (pushed ∙ ap (λ x. mid ++ App (suc d) x ∷ []) same) place

pub successor_nodes : (th : Theory) (n : ℕ) (old new : List Node) (us ks : List ℕ) (k : ℕ) → n ≡ 0 → IsNodeTable old → new ≡ old ++ Nat ∷ [] →
    k ≡ length old → ks ≡ k ∷ [] → HeadNodes th old new n us successor_head ks
successor_nodes th n old new us ks k e table pushed place same =
    subst (λ x. HeadNodes th old x n us successor_head ks) (sym pushed)
    (subst (HeadNodes th old (old ++ Nat ∷ []) n us successor_head) (sym (same ∙ ap (λ x. x ∷ []) place)) (record {
      grows = grows_pushed old Nat table tt (λ o. cc);
      inside = (omega (arith, pushed_length old Nat), tt);
      reads = λ ρ f. λ i. Some (sym e i, sym (pushed_says old Nat table tt ρ f) i ∷ []);
    }))

pub con_nodes : (th : Theory) (n c : ℕ) (old new : List Node) (us ks : List ℕ) (o : Owned) (args : List declared.Ty) → constructor_at th c ≡ Some o →
    o.constructor.arguments ≡ map ty args → o.datatype ≡ n → PlantsAll old us (types args) new ks → HeadNodes th old new n us (of c) ks
con_nodes th n c old new us ks o args is same e p = record {
  grows = p.grows;
  inside = p.inside;
  reads = λ ρ f.
      ap (option_map (λ (x : Owned). (x.datatype, map (instance (map ρ us)) x.constructor.arguments))) is
      ∙ (λ i. Some (e i, (ap (map (instance (map ρ us))) same ∙ sym (planted_types ρ old new us ks args p f)) i));
}

length_map : (ρ : Assignment) (ls : List ℕ) → length (map ρ ls) ≡ length ls
length_map ρ [] = refl
length_map ρ (l ∷ ls) = ap suc (length_map ρ ls)

pub other_count : (th : Theory) (old mid : List Node) (n : ℕ) (us : List ℕ) (head : Head) (xs : List (List ℕ)) (locs more ks : List ℕ) →
    AreBelow (length old) us → HeadNodes th old mid n us head ks → length ks ≢ length xs → BindsBranch th old mid n us head xs locs more false
other_count th old mid n us head xs locs more ks b h other ρ ts f w l =
    let x = h.grows.extends ρ f in
    let a : Agree (length old) x.types ρ = record { at = x.same } in
    let p : Some (n, map x.types ks) ≡ Some (n, ts) = sym (h.reads x.types x.fits) ∙ ap (λ us. head_at th us head) (same_types us b a) ∙ w in
    other (sym (length_map x.types ks) ∙ ap length (second (n, map x.types ks) (n, ts) p) ∙ sym l)
