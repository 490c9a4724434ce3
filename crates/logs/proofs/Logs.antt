-- What is claimed of every answer that keeps the promise. Each claim goes by the three kinds of answer: of the others the promise says something that cannot be. 17 is told from
-- the numbers of a record by its number, which none of their rows has. Assumes nothing.
use mathlib.Core.Path.{◌≡◌, refl, sym, ◌∙◌, ap, subst}
use mathlib.Core.Logic.{◌⊎◌, inl, inr}
use mathlib.Core.Bool.{Bool, true, false, ◌||◌}
use mathlib.Core.List.Memᴰ
use mathlib.Core.List.{List, ◌∷◌, ◌++◌, Memᴰ}
use mathlib.Core.Option.{none, some}
use Prim.Native.Nat.{ℕ, ◌≤◌, ◌<◌}
use native.Mathlib.Omega.{arith}
use lib.ListN.{length}
use lib.Dec.{ltb, leb}
use borrow.Author.Tests.{ltb-true, lt-ltb, leb-true, le-leb}
use Rattle.laws.specs.Lists.{any, all}
use Rattle.laws.proofs.Bools.{lt?, option?, some-none, some_one, or_left, or_right, either}
use Rattle.laws.proofs.Lists.{any-true, any_found, all_in}
use Rattle.railway.specs.declared.Railway.{Railway}
use Rattle.railway.specs.declared.Refusal.{Refusal}
use Rattle.railway.specs.declared.Refusal.TheVariants.{Log}
use Rattle.railway.specs.Refusals.{number, Row, row, first, refuse_if, number_of}
use Rattle.railway.specs.Rows.{record_rows, record_refusal}
use Rattle.railway.proofs.Refusals.{first-is, number-one, number-tells}
use Rattle.logs.specs.declared.Entry.{Entry}
use Rattle.logs.specs.LogAnswer.{LogAnswer, Agree, Differ, Refused}
use Rattle.logs.specs.Logs.{most_entries, Agreeing, LowestDiffering, lacking, faulty, log_rows, Taken, number_said, train_named, Found, LogPost, AtFault, LogClaims, LogsHold}
use Rattle.logs.specs.Computed.{compare}
use Rattle.logs.proofs.Computed.{by-record, by-logs, past_same, compare-keeps}
use Rattle.logs.proofs.Swapping.{agree-by-swaps}

-- ROW 17 is the fault of a log
at-fault : (r : Railway) (es : List Entry) → faulty r es ≡ true → AtFault r es
unfolding faulty
at-fault r es e = elim (either (ltb most_entries (length es)) (any (lacking r) es) e) [
  | inl l ↦ inl (ltb-true 256 (length es) l)
  | inr y ↦ (let w = any_found (lacking r) es y in
      inr (
        w.element,
        w.member,
        elim (either (leb r.trains w.element.train) (leb r.sections w.element.section) w.passes) [
          | inl l ↦ inl (leb-true r.trains w.element.train l)
          | inr l ↦ inr (leb-true r.sections w.element.section l)
        ],
      ))
]

fault-at : (r : Railway) (es : List Entry) → AtFault r es → faulty r es ≡ true
unfolding faulty
fault-at r es (inl l) = or_left (ltb most_entries (length es)) (any (lacking r) es) (lt-ltb most_entries (length es) l)
fault-at r es (inr w) = or_right (ltb most_entries (length es)) (any (lacking r) es) (any-true (lacking r) es w.0 w.1 (named w.2))
  where
    named : (r.trains ≤ w.0.train) ⊎ (r.sections ≤ w.0.section) → lacking r w.0 ≡ true
    named (inl l) = or_left (leb r.trains w.0.train) (leb r.sections w.0.section) (le-leb r.trains w.0.train l)
    named (inr l) = or_right (leb r.trains w.0.train) (leb r.sections w.0.section) (le-leb r.sections w.0.section l)

-- no row of a record has its number
low-numbers : (r : Railway) → all (λ (x : Row). ltb (number x.refusal) 17) (record_rows r) ≡ true
unfolding all
low-numbers r = refl

record-low : (r : Railway) (f : Refusal) → record_refusal r ≡ some f → number f < 17
unfolding record_refusal
record-low r f e =
    let w = first-is (record_rows r) f e in
    ltb-true (number f) 17 (all_in (λ (x : Row). ltb (number x.refusal) 17) (record_rows r) (row f true) (low-numbers r) (member w.before w.after w.order))
  where
    member : (before after : List Row) → record_rows r ≡ before ++ (row f true ∷ after) → Memᴰ (row f true) (record_rows r)
    member before after o = rw o (Memᴰ.append_right before (Memᴰ.head refl))

not-log : (f : Refusal) → f ≡ Log → number f < 17 → ⊥
not-log f e l = let n : number f ≡ 17 = ap number e in omega arith

module _ (r : Railway) (a b : List Entry) where
  abbrev both : Bool
  both = faulty r a || faulty r b

  log-row : (x : Bool) → both ≡ x → refuse_if x Log none ≡ some Log → AtFault r a ⊎ AtFault r b
  log-row true e h = elim (either (faulty r a) (faulty r b) e) [ inl y ↦ inl (at-fault r a y) | inr y ↦ inr (at-fault r b y) ]
  log-row false e h = some-none h refl

  row-log : AtFault r a ⊎ AtFault r b → both ≡ true
  row-log (inl w) = or_left (faulty r a) (faulty r b) (fault-at r a w)
  row-log (inr w) = or_right (faulty r a) (faulty r b) (fault-at r b w)

  -- 17 is given exactly if
  given-log : first (log_rows r a b) ≡ some Log → (record_refusal r ≡ none) × (AtFault r a ⊎ AtFault r b)
  given-log e = elim (option? (record_refusal r)) [
    | inl n ↦ (n, log-row both refl (sym (by-logs r a b n) ∙ e))
    | inr w ↦ (let z : w.0 ≡ Log = some_one (sym (by-record r a b w.0 w.1) ∙ e) in absurd (not-log w.0 z (record-low r w.0 w.1)))
  ]

  log-given : (record_refusal r ≡ none) × (AtFault r a ⊎ AtFault r b) → first (log_rows r a b) ≡ some Log
  log-given h = by-logs r a b h.0 ∙ ap (λ (x : Bool). refuse_if x Log none) (row-log h.1)

  -- AN ANSWER by its kind
  taken-by : (x : LogAnswer) → LogPost r a b x → number_said x ≡ none → Taken r a b
  taken-by x p e = number-tells (first (log_rows r a b)) none (sym p.numbered ∙ e)

  agrees : (x : LogAnswer) → LogPost r a b x → x ≡ Agree → Taken r a b × Agreeing a b
  agrees x p e = let t = taken-by x p (ap number_said e) in (t, subst (Found a b) (ap train_named e) (p.compared t))

  agreeing : (x : LogAnswer) → LogPost r a b x → Taken r a b → Agreeing a b → x ≡ Agree
  agreeing Agree p t h = refl
  agreeing (Differ u) p t h = absurd ((p.compared t).differs (h u))
  agreeing (Refused f) p t h = some-none refl (p.numbered ∙ ap number_of t)

  differing : (x : LogAnswer) → LogPost r a b x → (t : ℕ) → x ≡ Differ t → Taken r a b × LowestDiffering a b t
  differing x p t e = let k = taken-by x p (ap number_said e) in (k, subst (Found a b) (ap train_named e) (p.compared k))

  -- two lowest are one
  lowest-one : (t u : ℕ) → LowestDiffering a b t → LowestDiffering a b u → t ≡ u
  lowest-one t u p q = elim (lt? t u) [
    | inl l ↦ absurd (p.differs (q.below t l))
    | inr l ↦ elim (lt? u t) [ inl m ↦ absurd (q.differs (p.below u m)) | inr m ↦ omega arith ]
  ]

  differs : (x : LogAnswer) → LogPost r a b x → (t : ℕ) → Taken r a b → LowestDiffering a b t → x ≡ Differ t
  differs Agree p t k h = absurd (h.differs (p.compared k t))
  differs (Differ u) p t k h = ap (λ (n : ℕ). Differ n) (lowest-one u t (p.compared k) h)
  differs (Refused f) p t k h = some-none refl (p.numbered ∙ ap number_of k)

  refused : (x : LogAnswer) → LogPost r a b x → (f : Refusal) → first (log_rows r a b) ≡ some f → x ≡ Refused f
  refused Agree p f e = some-none (p.numbered ∙ ap number_of e) refl
  refused (Differ t) p f e = some-none (p.numbered ∙ ap number_of e) refl
  refused (Refused g) p f e = ap (λ (h : Refusal). Refused h) (number-one g f (some_one (p.numbered ∙ ap number_of e)))

  only_one : (x y : LogAnswer) → LogPost r a b x → LogPost r a b y → y ≡ x
  only_one Agree y p q = let k = agrees Agree p refl in agreeing y q k.0 k.1
  only_one (Differ t) y p q = let k = differing (Differ t) p t refl in differs y q t k.0 k.1
  only_one (Refused f) y p q = refused y q f (number-tells (first (log_rows r a b)) (some f) (sym p.numbered))

  log-claims : (x : LogAnswer) → LogPost r a b x → LogClaims r a b x
  log-claims x p = record {
    agree = (agrees x p, λ h. agreeing x p h.0 h.1);
    swaps = (
      (λ e. let k = agrees x p e in (k.0, (agree-by-swaps a b).0 k.1)),
      (λ h. agreeing x p h.0 ((agree-by-swaps a b).1 h.1)),
    );
    differ = λ t. (differing x p t, λ h. differs x p t h.0 h.1);
    there = λ t e. elim (lt? t r.trains) [
      | inl l ↦ l
      | inr l ↦ (let k = differing x p t e in absurd (k.1.differs (past_same r a b k.0 t l)))
    ];
    record-first = λ f e. refused x p f (by-record r a b f e);
    seventeen = (
      (λ e. given-log (number-tells (first (log_rows r a b)) (some Log) (sym p.numbered ∙ e))),
      (λ h. p.numbered ∙ ap number_of (log-given h)),
    );
    only = λ y q. only_one x y p q;
  }

pub logs-hold : LogsHold
logs-hold = record { claims = log-claims; answered = λ r a b. (compare r a b, compare-keeps r a b); by-swaps = agree-by-swaps }
