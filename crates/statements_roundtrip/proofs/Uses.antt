-- What the statement on reader and writer is for: Yard A's text read, looked up field by field, and written and read back, all drawn from that
-- statement. Nothing rests on these facts; they hold its clauses fast, for without one, or with a weaker one in its place, its fact is lost.
-- Assumes nothing.
use mathlib.Core.Path.{◌≡◌, refl, sym, ◌∙◌, ap, subst}
use mathlib.Core.Logic.{inl, inr}
use mathlib.Core.Bool.{true}
use mathlib.Core.List.{List, [], ◌∷◌, Memᴰ}
use mathlib.Core.Option.{none, some}
use Prim.Native.Nat.{ℕ}
use native.Mathlib.Omega.{arith}
use lib.ListN.{take, replicate}
use Rattle.std.proofs.Common.{Ok}
use denote.Ref.{Bor}
use denote.MutBor.{MutBor}
use base.Fml.{Lft}
use contract.Lifetimes.{Lfts}
use borrow.Fn.Kinds.{Dens}
use Rattle.text.specs.Text.{bytes}
use Rattle.railway.specs.declared.Side.TheVariants.{Up, Down}
use Rattle.railway.specs.declared.Leg.TheVariants.{Plus, Minus}
use Rattle.railway.specs.declared.End.{End}
use Rattle.railway.specs.declared.End.TheVariants.{Section, Port}
use Rattle.railway.specs.Joined.{Nothing, With}
use Rattle.railway.specs.declared.Train.{Train}
use Rattle.railway.specs.declared.Railway.{Railway}
use Rattle.railway.specs.Ends.{end_at}
use Rattle.railway.specs.Record.{joined_by, link_at, flag_at, closed_at, joined, has_signal, is_closed, legs_of, train_of, weight_of, with_join, with_signal, with_closed, with_legs, with_train}
use Rattle.railway.specs.Yards.{yard_a}
use Rattle.case_file.specs.CaseRead.{CaseRead}
use Rattle.case_file.specs.Written.{Written}
use Rattle.case_file.specs.Form.{section, JoinLine, SignalLine}
use Rattle.case_file.specs.Writing.{written, buffer_after, WriterPost}
use Rattle.case_file.specs.Given.{accepted, ReaderPost}
use Rattle.case_file.specs.YardTexts.{text_a, yard_texts}
use Rattle.case_file.specs.Claims.{Names, AsDescribed}
use Rattle.case_file.specs.Reading.{case_answer}
use Rattle.case_file.proofs.Given.{accepted-exactly, reader-answers}
use Rattle.case_file.proofs.Call.{promised}
use Rattle.case_file.proofs.YardTexts.{yards-accepted}
use Rattle.case_file.proofs.Uses.{description_a, says-a, says-a-only, shut, text_shut, saying_shut, says-shut-only}
use Rattle.case_file.proofs.Uses.{crossing, text_crossing, description_crossing, says-crossing-only, text_seven}
use Rattle.case_file.proofs.Uses.{text_without, saying_weight, weighing, says-seven-only, says-without-only}
use Rattle.case_reader.proofs.Claims.{reader-accepts}
use Rattle.case_writer.proofs.Uses.{bytes-written, shut-written, crossing-written, seven-written}
use Rattle.case_reader.proofs.read_case.Kinds as read
use Rattle.case_reader.proofs.read_case.Reads.{Asked as ReadAsked}
use Rattle.case_reader.proofs.read_case.Statement.{statement as ReadMet}
use Rattle.case_writer.proofs.write_case.Kinds as write
use Rattle.case_writer.proofs.write_case.Reads.{Asked as WriteAsked}
use Rattle.case_writer.proofs.write_case.Statement.{statement as WriteMet}
use Rattle.statements_roundtrip.specs.Running.{ReadCall, WriteCall}
use Rattle.statements_roundtrip.proofs.Running.{roundtrip-runs}

-- ends of the record, by number less one
abbrev up : ℕ → End
up n = Section (record { 0 = n }) Up

abbrev down : ℕ → End
down n = Section (record { 0 = n }) Down

-- Yard A's text may be handed in, as any other, and so may its record and any buffer; and the routines that run then keep their contracts.
may_read : (κs : Lfts 1) (a : Dens κs read.ps) → a.0.now ≡ bytes text_a → ReadAsked κs a
may_read κs a e = roundtrip-runs.reader-asks κs a

may_write : (κs : Lfts 1) (a : Dens κs write.ps) → a.0 ≡ yard_a → WriteAsked κs a
may_write κs a e = roundtrip-runs.writer-asks κs a

reads_so : {M : Type 1} → ReadMet M
reads_so = roundtrip-runs.reader-meets

writes-so : {M : Type 1} → WriteMet M
writes-so = roundtrip-runs.writer-meets

-- There are such calls: of Yard A's text, which is accepted, and of its record with 4,096 bytes to write in, of which it takes 68.
handing : List ℕ → Bor (List ℕ)
handing s = record { ref_ptr = (0, 0); now = s }

read-call : (κ : Lft) → ReadCall (bytes text_a) (accepted yard_a)
unfolding yard_texts handing
read-call κ =
    let e : accepted yard_a ≡ case_answer (bytes text_a) = sym ((accepted-exactly (bytes text_a) yard_a).1 yards-accepted.0) in
    record {
      lifetimes = (κ, tt);
      arguments = (handing (bytes text_a), tt);
      left = (handing (bytes text_a), tt);
      result = Ok yard_a;
      handed = refl;
      answered = refl;
      learnt = (reader-answers (bytes text_a) (accepted yard_a)).0 e;
    }

lending : List ℕ → MutBor (List ℕ)
lending s = record { ref_ptr = (0, 0); ghost_name = 0; now = s }

write-call : (κ : Lft) → WriteCall yard_a (replicate 4096 7) (written yard_a (replicate 4096 7)) (buffer_after yard_a (replicate 4096 7))
unfolding lending
write-call κ =
    record {
      lifetimes = (κ, tt);
      arguments = (yard_a, (lending (replicate 4096 7), tt));
      left = (yard_a, (lending (buffer_after yard_a (replicate 4096 7)), tt));
      handed = (refl, refl);
      leaves = refl;
      learnt = promised yard_a (replicate 4096 7) refl refl;
    }

-- Whoever calls the reader learns its promise; and so that Yard A's text is accepted.
promise : (text : List ℕ) (answer : CaseRead) → ReadCall text answer → ReaderPost text answer
promise text answer c =
    subst (λ (t : List ℕ). ReaderPost t answer) c.handed
    (subst (λ (a : CaseRead). ReaderPost c.arguments.0.now a) c.answered
    (subst (λ (P : Type 0). P) (roundtrip-runs.reader-promises c.lifetimes c.arguments c.result c.left) c.learnt))

text-accepted : (answer : CaseRead) → ReadCall (bytes text_a) answer → answer ≡ accepted yard_a
unfolding yard_texts
text-accepted answer c = (reader-accepts (bytes text_a) answer (promise (bytes text_a) answer c) yard_a).1 yards-accepted.0

-- No J line of Yard A names 1d, and no G line 1u.
other-side : Up ≡ Down → ⊥
other-side h = let z : ◌≡◌ {A = ℕ} 0 1 = cc in omega (arith, z)

no_join : (j : JoinLine) → Memᴰ j description_a.joins → (Names j.one (down 0) → ⊥) × (Names j.other (down 0) → ⊥)
no_join j (Memᴰ.tail (Memᴰ.tail (Memᴰ.tail x12))) = elim x12 [ ]
no_join j (Memᴰ.head e) = rw e (λ n. other-side n.1, λ n. n)
no_join j (Memᴰ.tail (Memᴰ.head e)) = rw e (λ n. omega (arith, n.0), λ n. n)
no_join j (Memᴰ.tail (Memᴰ.tail (Memᴰ.head e))) = rw e (λ n. omega (arith, n.0), λ n. n)

no-signal : (g : SignalLine) → Memᴰ g description_a.signals → Names (section g.number g.side) (up 0) → ⊥
no-signal g (Memᴰ.tail (Memᴰ.tail x9)) n = elim x9 [ ]
no-signal g (Memᴰ.head e) n = let m : Names (section 1 Down) (up 0) = rw e at n in other-side (sym m.1)
no-signal g (Memᴰ.tail (Memᴰ.head e)) n = let m : Names (section 2 Up) (up 0) = rw e at n in omega (arith, m.0)

-- READ AS DESCRIBED. Whatever railway is given for Yard A's text,
module _ (answer : CaseRead) (c : ReadCall (bytes text_a) answer) (q : Railway) (given : answer ≡ accepted q) where
  said : AsDescribed description_a q
  said = let t = roundtrip-runs.described (bytes text_a) answer c q given in rw (says-a-only t.0 t.1) at t.2

  -- it has three sections, a point and two trains, by the H line;
  counts : (q.sections ≡ 3) × (q.points ≡ 1) × (q.trains ≡ 2)
  counts = (said.sections, said.points, said.trains)

  -- the point's legs down, by the P line;
  legs-down : legs_of q 0 ≡ Down
  legs-down = said.legs 0 (omega arith)

  -- 1u joined to 1+, either way, by a J line, and no track beyond 1d, for there is none;
  plus-joined : (joined q (up 0) ≡ With (Port (record { 0 = 0 }) Plus)) × (joined q (Port (record { 0 = 0 }) Plus) ≡ With (up 0))
  plus-joined = (
    (said.joins (up 0) (Port (record { 0 = 0 }) Plus)).1 (record { join = _; member = Memᴰ.head refl; ties = inl ((refl, refl), (refl, refl)) }),
    (said.joins (Port (record { 0 = 0 }) Plus) (up 0)).1 (record { join = _; member = Memᴰ.head refl; ties = inr ((refl, refl), (refl, refl)) }),
  )

  track-ends : (f : End) → joined q (down 0) ≡ With f → ⊥
  track-ends f e =
      let j = (said.joins (down 0) f).0 e in
      let n = no_join j.join j.member in
      elim j.ties [ inl t ↦ n.0 t.0 | inr t ↦ n.1 t.1 ]

  -- so the lookup at 1d gives nothing, and that at 1u does not;
  nothing-there : joined q (down 0) ≡ Nothing
  nothing-there =
      (roundtrip-runs.unjoined (bytes text_a) answer c q given description_a says-a (down 0)).1
      (λ f j. let n = no_join j.join j.member in elim j.ties [ inl t ↦ n.0 t.0 | inr t ↦ n.1 t.1 ])

  something-there : joined q (up 0) ≡ Nothing → ⊥
  something-there e =
      (roundtrip-runs.unjoined (bytes text_a) answer c q given description_a says-a (up 0)).0 e (Port (record { 0 = 0 }) Plus)
      (record { join = _; member = Memᴰ.head refl; ties = inl ((refl, refl), (refl, refl)) })

  -- a signal at 1d, by a G line, and none at 1u;
  signal-1d : has_signal q (down 0) ≡ true
  signal-1d = (said.signals (down 0)).1 (record { signal = _; member = Memᴰ.head refl; names = (refl, refl) })

  no-signal-1u : has_signal q (up 0) ≡ true → ⊥
  no-signal-1u e = let g = (said.signals (up 0)).0 e in no-signal g.signal g.member g.names

  -- train 1 heads up from 2 for 3, by its T line.
  first-train : ((train_of q 0).heading ≡ Up) × ((train_of q 0).start.0 ≡ 1) × ((train_of q 0).destination.0 ≡ 2)
  first-train = let t = said.roster 0 (omega arith) in (t.heading, omega (arith, t.start), omega (arith, t.destination))

-- Whatever railway is given for the text of the yard in which 3 and 4 are closed has 3 closed, by an X line, and not 1.
no-closed : Memᴰ {A = ℕ} 1 (3 ∷ 4 ∷ []) → ⊥
no-closed (Memᴰ.tail (Memᴰ.tail x8)) = elim x8 [ ]
no-closed (Memᴰ.head e) = omega (arith, e)
no-closed (Memᴰ.tail (Memᴰ.head e)) = omega (arith, e)

closed_said : (answer : CaseRead) → ReadCall (bytes text_shut) answer → (q : Railway) → answer ≡ accepted q → (is_closed q 2 ≡ true) × (is_closed q 0 ≡ true → ⊥)
closed_said answer c q given =
    let t = roundtrip-runs.described (bytes text_shut) answer c q given in
    let said : AsDescribed (saying_shut (3 ∷ 4 ∷ [])) q = rw (says-shut-only t.0 t.1) at t.2 in
    ((said.closed 2).1 (Memᴰ.head refl), λ e. no-closed ((said.closed 0).0 e))

-- Whatever railway is given for the text of the crossover has 1- joined to 2-, either way, by its last J line.
inner-said : (answer : CaseRead) → ReadCall (bytes text_crossing) answer → (q : Railway) → answer ≡ accepted q
    → (joined q (Port (record { 0 = 0 }) Minus) ≡ With (Port (record { 0 = 1 }) Minus)) × (joined q (Port (record { 0 = 1 }) Minus) ≡ With (Port (record { 0 = 0 }) Minus))
inner-said answer c q given =
    let t = roundtrip-runs.described (bytes text_crossing) answer c q given in
    let said : AsDescribed description_crossing q = rw (says-crossing-only t.0 t.1) at t.2 in
    let last = Memᴰ.tail (Memᴰ.tail (Memᴰ.tail (Memᴰ.tail (Memᴰ.head refl)))) in (
      (said.joins (Port (record { 0 = 0 }) Minus) (Port (record { 0 = 1 }) Minus)).1 (record { join = _; member = last; ties = inl ((refl, refl), (refl, refl)) }),
      (said.joins (Port (record { 0 = 1 }) Minus) (Port (record { 0 = 0 }) Minus)).1 (record { join = _; member = last; ties = inr ((refl, refl), (refl, refl)) }),
    )

-- Whatever railway is given for the text with 7 in its T line has weight 7 for its train, and for that without 1.
weight-said : (answer : CaseRead) → ReadCall (bytes text_seven) answer → (q : Railway) → answer ≡ accepted q → weight_of q 0 ≡ 7
unfolding weight_of
weight-said answer c q given =
    let t = roundtrip-runs.described (bytes text_seven) answer c q given in
    let said : AsDescribed (saying_weight (some 7)) q = rw (says-seven-only t.0 t.1) at t.2 in
    (said.roster 0 (omega arith)).weight

weight-unsaid : (answer : CaseRead) → ReadCall (bytes text_without) answer → (q : Railway) → answer ≡ accepted q → weight_of q 0 ≡ 1
unfolding weight_of
weight-unsaid answer c q given =
    let t = roundtrip-runs.described (bytes text_without) answer c q given in
    let said : AsDescribed (saying_weight none) q = rw (says-without-only t.0 t.1) at t.2 in
    (said.roster 0 (omega arith)).weight

-- WRITTEN AND READ BACK. Yard A's record, written into a buffer of 4,096 bytes: it takes 68, and these are read as a railway with its signal at 1d.
write-promise : (r : Railway) (w : Written) (after : List ℕ) → WriteCall r (replicate 4096 7) w after → WriterPost r (replicate 4096 7) w after
write-promise r w after c =
    let p : WriterPost c.arguments.0 c.arguments.1.0.now w c.left.1.0.now =
    subst (λ (P : Type 0). P) (roundtrip-runs.writer-promises c.lifetimes c.arguments w c.left) c.learnt in
    rw (← c.handed.0, ← c.handed.1, ← c.leaves) p

signal-back : (w : Written) (after : List ℕ) → WriteCall yard_a (replicate 4096 7) w after → (answer : CaseRead) → ReadCall (take 68 after) answer
    → flag_at answer.railway 0 ≡ true
unfolding with_join with_signal with_legs with_train
signal-back w after c answer d =
    let t = roundtrip-runs.read_back yard_a (replicate 4096 7) after w c 68 (bytes-written w after (write-promise yard_a w after c)) answer d in
    ap (λ (x : CaseRead). flag_at x.railway 0) t.1 ∙ sym (t.2.signals 0 (omega arith))

-- The other yard's record takes 34 bytes, and these are read as a railway that has 3 closed.
closed-back : (w : Written) (after : List ℕ) → WriteCall shut (replicate 4096 7) w after → (answer : CaseRead) → ReadCall (take 34 after) answer
    → closed_at answer.railway 2 ≡ true
unfolding with_join with_closed with_train
closed-back w after c answer d =
    let t = roundtrip-runs.read_back shut (replicate 4096 7) after w c 34 (shut-written w after (write-promise shut w after c)) answer d in
    ap (λ (x : CaseRead). closed_at x.railway 2) t.1 ∙ sym (t.2.closed 2 (omega arith))

-- The crossover's takes 70, and these are read as a railway that has 1- joined to 2-.
inner_back : (w : Written) (after : List ℕ) → WriteCall crossing (replicate 4096 7) w after → (answer : CaseRead) → ReadCall (take 70 after) answer
    → link_at answer.railway 98 ≡ With (Port (record { 0 = 1 }) Minus)
unfolding joined_by end_at with_join with_legs with_train
inner_back w after c answer d =
    let t = roundtrip-runs.read_back crossing (replicate 4096 7) after w c 70 (crossing-written w after (write-promise crossing w after c)) answer d in
    ap (λ (x : CaseRead). link_at x.railway 98) t.1 ∙ sym (t.2.joins 98 (omega arith))

-- The record of a train with weight 7 takes 20, and these are read as a railway that has that weight.
weight-back : (w : Written) (after : List ℕ) → WriteCall (weighing 7) (replicate 4096 7) w after → (answer : CaseRead) → ReadCall (take 20 after) answer
    → weight_of answer.railway 0 ≡ 7
unfolding weight_of train_of with_train
weight-back w after c answer d =
    let t = roundtrip-runs.read_back (weighing 7) (replicate 4096 7) after w c 20 (seven-written w after (write-promise (weighing 7) w after c)) answer d in
    ap (λ (x : CaseRead). weight_of x.railway 0) t.1 ∙ sym (ap (λ (x : Train). x.weight) (t.2.roster 0 (omega arith)))
