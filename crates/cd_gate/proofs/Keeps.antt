-- Each step keeps the rule.
use Rattle.std.proofs.Common.{ltb, ltb-true, ltb-false, cond, ◌≡◌, ◌≢◌, ◌⊎◌, ℕ, ◌+◌, ◌%◌, ◌^◌, ◌<◌, ◌≤◌, List, [], ◌∷◌, ◌++◌, length, set, get_or, sym, refl, ap, ◌∙◌, subst, ⊎_elim, inl, inr, arith, append_assoc, append-nil, eq-or-lt_of_le, lt_of_not-le, Option, Some, Bool, true, false, unwrap_or}
use mathlib.Core.Option.{some, none, some-injective, some-ne-none}
use mathlib.Core.Option as maybe
use mathlib.Core.Logic.{dite}
use native.Mathlib.Decide.{ℕ_discrete, dec_le}
use lib.ListN.{get_elem?}
use lib.Seq.{set-get_or}
use Rattle.std.specs.Prelude.{slice_index, slice_set}
use Rattle.atomic_table.specs.Table.{State, Me, step, keeps, takes, gives, Allows, Splits, Joins as Merges, opening, rest, put_back, Final, Seen}
use Rattle.atomic_table.proofs.Lists.{at_set, set_here, set_else, set_again, one_turn}
use Rattle.cd_gate.specs.declared.seat_state.Role.{Role}
use Rattle.cd_gate.specs.declared.seat_state.Role.TheVariants.{Idle, Waiting, Holding, Joined}
use Rattle.cd_gate.specs.declared.seat_state.SeatState.{SeatState}
use Rattle.std.specs.Prelude.{All, slice_index_or}
use Rattle.std.proofs.lemmas.List.Elements.{All-nil, All-head}
use Rattle.cd_gate.specs.Histories.{GrewByOthers, GrewByTurn, longer}
use Rattle.cd_gate.specs.TurnRule.{Once, IsTicket, IsHolding, tickets, HasTicket, HasNumber, tickets_of, width, spent_seat, first_seat, below_cut, from_cut, joined_ranges, FitsRole, IsSeated, IsSpentOrSeated, HasSlot, IsGateState, TakesTicket, LooksAtServed, ServesNext, KeepsLonger}
use Rattle.cd_gate.proofs.Entries.{All-push, All-front, All-back, begins_longer}
use Rattle.cd_gate.proofs.Lists.{total_set, total_push, total_le, each_set, each_push, each_none, at_inside, at_longer, set_swap, once_set, once_less, once_push}

mod_suc : (n : ℕ) → (n % 2 ^ 64 + 1) % 2 ^ 64 ≡ (n + 1) % 2 ^ 64
mod_suc n = omega arith

-- a number that is not in a range lies below or above it
outside : (n lowest end : ℕ) → ((lowest ≤ n) × (n < end) → ⊥) → (n < lowest) ⊎ (end ≤ n)
outside n lowest end not = dite (dec_le lowest n) (λ a. dite (dec_le end n) (λ b. inr b) (λ b. absurd (not (a, lt_of_not-le b)))) (λ a. inl (lt_of_not-le a))

module _ {E : Type 0} where
  ticket_one : (k : ℕ) (r : Role E) → IsTicket k r → tickets r ≡ 1
  ticket_one k Idle t = absurd t
  ticket_one k (Waiting j) t = refl
  ticket_one k (Holding j) t = refl
  ticket_one k (Joined m xs) t = absurd t

  tickets_most : (r : Role E) → tickets r ≤ 1
  tickets_most Idle = omega arith
  tickets_most (Waiting j) = omega arith
  tickets_most (Holding j) = omega arith
  tickets_most (Joined m xs) = omega arith

  abbrev ticket_of : Role E → ℕ
  ticket_of Idle = 0
  ticket_of (Waiting j) = j
  ticket_of (Holding j) = j
  ticket_of (Joined m xs) = 0

  no_holder : (r : Role E) → tickets r ≡ 0 → IsHolding r → ⊥
  no_holder Idle e h = h
  no_holder (Waiting j) e h = h
  no_holder (Holding j) e h = omega arith
  no_holder (Joined m xs) e h = h

module _ {T E S : Type 0} (number : E → ℕ) (entries : T → List E) (start : T → S) (begin : S) (workers : ℕ) where
  abbrev Seat : Type 0
  Seat = SeatState E S

  abbrev Table : Type 0
  Table = State (Option T) Seat

  abbrev Held : Type 0
  Held = Me (Option T) Seat

  abbrev Rule : Table → Type 0
  Rule = IsGateState number entries start begin workers

  abbrev Known : ℕ → ℕ → List E → Seat → Type 0
  Known = IsSpentOrSeated number begin workers

  abbrev Fits : ℕ → ℕ → List E → Seat → Role E → Type 0
  Fits = FitsRole number begin workers

  abbrev SlotIs : ℕ → ℕ → List E → List (maybe.Option (Option T)) → List Seat → Type 0
  SlotIs issued served log = HasSlot number begin workers issued served log entries start

  real_of : (issued served : ℕ) (log : List E) (v : Seat) → v.lowest < v.end → Known issued served log v → IsSeated number begin workers issued served log v
  real_of issued served log v wide k = ⊎_elim (λ (t : (v.role ≡ Idle) × (v.end ≤ v.lowest)). let a = t.1 in absurd (omega arith)) (λ t. t) k

  fits_of : (issued served : ℕ) (log : List E) (v : Seat) (r : Role E) → v.lowest < v.end → v.role ≡ r → Known issued served log v → Fits issued served log v r
  fits_of issued served log v r wide is k = subst (Fits issued served log v) is ((real_of issued served log v wide k).fits)

  queued : (issued served : ℕ) (log : List E) (v : Seat) (r : Role E) (k : ℕ) → Fits issued served log v r → IsTicket k r → (served ≤ k) × (k < issued)
  queued issued served log v Idle k f t = absurd t
  queued issued served log v (Waiting j) k f t = let a = f.1 in let b = f.2 in (omega arith, omega arith)
  queued issued served log v (Holding j) k f t = let a = f.1 in let b = f.2 in (omega arith, omega arith)
  queued issued served log v (Joined m xs) k f t = absurd t

  in_queue : (issued served : ℕ) (log : List E) (v : Seat) (k : ℕ) → Known issued served log v → HasTicket k v → (served ≤ k) × (k < issued)
  in_queue issued served log v k know t = ⊎_elim (λ (x : (v.role ≡ Idle) × (v.end ≤ v.lowest)). absurd (subst (IsTicket k) x.0 t)) (λ x. queued issued served log v v.role k x.fits t) know

  narrow : (issued served : ℕ) (log : List E) (v : Seat) → Known issued served log v → tickets_of v ≤ width v
  narrow issued served log v know = ⊎_elim (λ (x : (v.role ≡ Idle) × (v.end ≤ v.lowest)). let z : tickets v.role ≡ 0 = ap tickets x.0 in omega arith)
      (λ x. let a = x.wide in let b = tickets_most v.role in omega arith) know

  -- fewer than 2^64 tickets are out
  short : (s : Table) (r : Rule s) → r.issued < r.served + 2 ^ 64
  short s r = let a = total_le tickets_of width s.views (λ i v e. narrow r.issued r.served r.log v (r.each_seat i v e)) in let b = r.few in let c = r.queue in omega arith

  slot_stays : (issued served : ℕ) (log : List E) (homes : List (maybe.Option (Option T))) (views : List Seat) (id : ℕ) (v w : Seat) → get_elem? views id ≡ some v → (IsHolding v.role → IsHolding w.role)
      → SlotIs issued served log homes views → SlotIs issued served log homes (set views id w)
  slot_stays issued served log homes views id v w at holds = ⊎_elim (λ t. inl t)
      (λ (t : (homes ≡ none ∷ []) × ((j : ℕ) × (u : Seat) × (get_elem? views j ≡ some u) × IsHolding u.role)).
      let j = t.1.0 in let u = t.1.1 in let e = t.1.2 in let h = t.1.3 in
      inr (
        t.0,
        dite (ℕ_discrete j id)
            (λ same. (id, w, set_here views id w (at_inside views id v at), holds (subst (λ (x : Seat). IsHolding x.role) (some-injective u v (sym e ∙ (ap (get_elem? views) same ∙ at))) h)))
            (λ other. (j, u, set_else views id j w other ∙ e, h)),
      ))

  fits_more : (issued served : ℕ) (log : List E) (v : Seat) (r : Role E) → Fits issued served log v r → Fits (issued + 1) served log v r
  fits_more issued served log v Idle f = f
  fits_more issued served log v (Waiting j) f = let a = f.2 in (f.0, f.1, omega arith)
  fits_more issued served log v (Holding j) f = let a = f.2 in (f.0, f.1, omega arith)
  fits_more issued served log v (Joined m xs) f = f

  knows_more : (issued served : ℕ) (log : List E) (v : Seat) → Known issued served log v → Known (issued + 1) served log v
  knows_more issued served log v = ⊎_elim (λ t. inl t) (λ x. inr record { wide = x.wide; within = x.within; begun = x.begun; among = x.among; fits = fits_more issued served log v v.role x.fits })

  pub takes_ticket : (slots id : ℕ) (me : Held) → me.0.role ≡ Idle → me.0.lowest < me.0.end → Allows Rule slots id me 0 (λ n. (n + 1) % 2 ^ 64) (TakesTicket number entries start (step slots 0 1 0 none) me)
  takes_ticket slots id me idle wide s r deep at fits =
      let v : Seat = me.0 in
      let w : Seat = record me.0 { role = Waiting r.issued } in
      let know : Known r.issued r.served r.log v = r.each_seat id v at in
      let real = real_of r.issued r.served r.log v wide know in
      let room : r.served ≤ r.issued = (let q = r.queue in omega arith) in (
        w,
        keeps,
        tt,
        record {
          issued = r.issued + 1;
          served = r.served;
          log = r.log;
          words_are = ap (λ (ws : List ℕ). slice_set ws 0 ((slice_index ws 0 + 1) % 2 ^ 64)) r.words_are ∙ ap (λ (k : ℕ). k ∷ (r.served % 2 ^ 64) ∷ []) (mod_suc r.issued);
          queue = let h = total_set tickets_of s.views id v w at in let z : tickets_of v ≡ 0 = ap tickets idle in let q = r.queue in omega arith;
          few = let h = total_set width s.views id v w at in let q = r.few in omega arith;
          known = r.known;
          each_seat = each_set (Known (r.issued + 1) r.served r.log) s.views id w
              (inr record { wide = wide; within = real.within; begun = real.begun; among = real.among; fits = (fits_of r.issued r.served r.log v Idle wide idle know, room, omega arith) })
              (λ j b other e. knows_more r.issued r.served r.log b (r.each_seat j b e));
          one_ticket = λ k. once_set (HasTicket k) s.views id w
              (λ (here : r.issued ≡ k) j b other e there. let q = in_queue r.issued r.served r.log b k (r.each_seat j b e) there in let q' = q.1 in omega arith) (r.one_ticket k);
          apart = λ n. once_less (HasNumber n) s.views id v w at (λ h. h) (r.apart n);
          slot = slot_stays (r.issued + 1) r.served r.log s.homes s.views id v w at (λ h. absurd (subst IsHolding idle h)) r.slot;
        },
        (r.issued, ap (λ (ws : List ℕ). slice_index ws 0) r.words_are, refl),
      )

  -- a load that changes nothing
  unmoved : (s : Table) (r : Rule s) (i id : ℕ) (v : Seat) → get_elem? s.views id ≡ some v → Rule record { words = set s.words i (get_or s.words i 0); homes = s.homes; views = set s.views id v }
  unmoved s r i id v at = subst (λ (ws : List ℕ). Rule record { words = ws; homes = s.homes; views = set s.views id v }) (sym (set-get_or s.words i 0))
      (subst (λ (vs : List Seat). Rule record { words = s.words; homes = s.homes; views = vs }) (sym (set_again s.views id v at)) r)

  holds_served : (issued served : ℕ) (log : List E) (v : Seat) (r : Role E) → Fits issued served log v r → IsHolding r → IsTicket served r
  holds_served issued served log v Idle f h = h
  holds_served issued served log v (Waiting j) f h = absurd h
  holds_served issued served log v (Holding j) f h = f.1
  holds_served issued served log v (Joined m xs) f h = h

  holder_served : (issued served : ℕ) (log : List E) (v : Seat) → Known issued served log v → IsHolding v.role → HasTicket served v
  holder_served issued served log v know h = ⊎_elim (λ (x : (v.role ≡ Idle) × (v.end ≤ v.lowest)). absurd (subst IsHolding x.0 h)) (λ x. holds_served issued served log v v.role x.fits h) know

  pub looks_served : (slots id : ℕ) (me : Held) (k : ℕ) → me.0.role ≡ Waiting k → me.0.lowest < me.0.end → Allows Rule slots id me 1 (λ n. n) (LooksAtServed number entries start (step slots 1 0 0 none) me)
  looks_served slots id me k waits wide s r deep at fits =
      let v : Seat = me.0 in
      let know : Known r.issued r.served r.log v = r.each_seat id v at in
      let real = real_of r.issued r.served r.log v wide know in
      let mine : HasTicket k v = subst (IsTicket k) (sym waits) refl in
      let fit = fits_of r.issued r.served r.log v (Waiting k) wide waits know in
      let found : slice_index s.words 1 ≡ r.served % 2 ^ 64 = ap (λ (ws : List ℕ). slice_index ws 1) r.words_are in
      let one : (j : ℕ) → v.role ≡ Waiting j → k ≡ j = (λ j is. ap ticket_of (sym waits ∙ is)) in
      dite (ℕ_discrete (slice_index s.words 1) (k % 2 ^ 64))
      (λ hit.
      let a = short s r in
      let b = fit.1 in
      let c = fit.2 in
      let now : r.served ≡ k = one_turn r.served k (2 ^ 64) fit.1 (omega arith) (sym found ∙ hit) in
      ⊎_elim
      (λ (home : (x : T) × (s.homes ≡ some (Some x) ∷ []) × (entries x ≡ r.log) × (start x ≡ begin)).
      let x : T = home.0 in
      let w : Seat = record me.0 { role = Holding k; seen = entries x } in (
        w,
        takes 0 (Some x),
        ap (λ (hs : List (maybe.Option (Option T))). get_elem? hs 0) home.1,
        record {
          issued = r.issued;
          served = r.served;
          log = r.log;
          words_are = set-get_or s.words 1 0 ∙ r.words_are;
          queue = let h = total_set tickets_of s.views id v w at in let z : tickets_of v ≡ 1 = ap tickets waits in let q = r.queue in omega arith;
          few = let h = total_set width s.views id v w at in let q = r.few in omega arith;
          known = r.known;
          each_seat = each_set (Known r.issued r.served r.log) s.views id w (inr record { wide = wide; within = real.within; begun = real.begun; among = real.among; fits = (home.2, sym now, fit.2) })
              (λ j b other e. r.each_seat j b e);
          one_ticket = λ j. once_less (HasTicket j) s.views id v w at (λ (h : k ≡ j). subst (IsTicket j) (sym waits) h) (r.one_ticket j);
          apart = λ n. once_less (HasNumber n) s.views id v w at (λ h. h) (r.apart n);
          slot = inr (ap (λ (hs : List (maybe.Option (Option T))). set hs 0 none) home.1, (id, w, set_here s.views id w (at_inside s.views id v at), tt));
        },
        λ j is. (
          (λ _. (
            x,
            ap (λ (n : ℕ). let u : Seat = record me.0 { role = Holding n; seen = entries x } in let m : Held = (u, (0, Some x) ∷ me.1) in m) (one j is),
            (
              subst (GrewByOthers number v.lowest v.end v.seen) (sym home.2) fit.0,
              below_too (sym home.2) (sym real.among) r.known,
              ap (λ (b : S). Some b) home.3 ∙ sym real.begun,
            ),
          )),
          (λ miss. absurd (miss (hit ∙ ap (λ (n : ℕ). n % 2 ^ 64) (one j is)))),
        ),
      ))
      (λ (out : (s.homes ≡ none ∷ []) × ((j : ℕ) × (u : Seat) × (get_elem? s.views j ≡ some u) × IsHolding u.role)).
      let j = out.1.0 in
      let u = out.1.1 in
      let theirs : HasTicket r.served u = holder_served r.issued r.served r.log u (r.each_seat j u out.1.2) out.1.3 in
      let same : id ≡ j = r.one_ticket r.served id j v u at out.1.2 (subst (λ (n : ℕ). HasTicket n v) (sym now) mine) theirs in
      let is : v ≡ u = some-injective v u (sym at ∙ (ap (get_elem? s.views) same ∙ out.1.2)) in
      absurd (subst IsHolding (ap (λ (y : Seat). y.role) (sym is) ∙ waits) out.1.3))
      r.slot)
      (λ miss. (v, keeps, tt, unmoved s r 1 id v at, λ j is. ((λ hit. absurd (miss (hit ∙ ap (λ (n : ℕ). n % 2 ^ 64) (sym (one j is))))), λ _. refl)))
    where
      below_too : {xs ys : List E} {m n : ℕ} → xs ≡ ys → m ≡ n → All (λ e. number e < m) xs → All (λ e. number e < n) ys
      below_too p q h = subst (λ (z : List E × ℕ). All (λ e. number e < z.1) z.0) (λ i. (p i, q i)) h

  others_more : (lowest end n : ℕ) (seen log later : List E) → GrewByTurn number n log later → (n < lowest) ⊎ (end ≤ n) → GrewByOthers number lowest end seen log → GrewByOthers number lowest end seen later
  others_more lowest end n seen log later adds out o =
      ⊎_elim
      (λ (same : later ≡ log). subst (GrewByOthers number lowest end seen) (sym same) o)
      (λ (more : (e : E) × (later ≡ log ++ e ∷ []) × (number e ≡ n)). (
        o.0 ++ more.0 ∷ [],
        more.1 ∙ (ap (λ (l : List E). l ++ more.0 ∷ []) o.1 ∙ append_assoc seen o.0 (more.0 ∷ [])),
        All-push (λ e. (number e < lowest) ⊎ (end ≤ number e)) o.0 more.0 (subst (λ (k : ℕ). (k < lowest) ⊎ (end ≤ k)) (sym more.2) out) o.2,
      ))
      adds

  others_none : (lowest end : ℕ) (xs : List E) → GrewByOthers number lowest end xs xs
  others_none lowest end xs = ([], sym (append-nil xs), All-nil (λ e. (number e < lowest) ⊎ (end ≤ number e)))

  fits_served : (issued served n : ℕ) (log later : List E) (v : Seat) (r : Role E) → GrewByTurn number n log later → (n < v.lowest) ⊎ (v.end ≤ n) → (IsTicket served r → ⊥) → Fits issued served log v r → Fits issued (served + 1) later v r
  fits_served issued served n log later v Idle adds out not f = others_more v.lowest v.end n v.seen log later adds out f
  fits_served issued served n log later v (Waiting j) adds out not f =
      (others_more v.lowest v.end n v.seen log later adds out f.0, ⊎_elim (λ (e : served ≡ j). absurd (not (sym e))) (λ (l : served < j). let g : served + 1 ≤ j = omega arith in g) (eq-or-lt_of_le f.1), f.2)
  fits_served issued served n log later v (Holding j) adds out not f = absurd (not f.1)
  fits_served issued served n log later v (Joined m xs) adds out not f =
      let a = f.0 in
      let b = f.1 in (
        f.0,
        f.1,
        others_more v.lowest m n v.seen log later adds (⊎_elim (λ l. inl l) (λ (l : v.end ≤ n). inr (omega arith)) out) f.2,
        others_more m v.end n xs log later adds (⊎_elim (λ (l : n < v.lowest). inl (omega arith)) (λ l. inr l) out) f.3,
      )

  knows_served : (issued served n : ℕ) (log later : List E) (v : Seat) → GrewByTurn number n log later → (HasNumber n v → ⊥) → (HasTicket served v → ⊥) → Known issued served log v → Known issued (served + 1) later v
  knows_served issued served n log later v adds out not =
      ⊎_elim (λ t. inl t)
      (λ x. inr record { wide = x.wide; within = x.within; begun = x.begun; among = x.among; fits = fits_served issued served n log later v v.role adds (outside n v.lowest v.end out) not x.fits })

  abbrev carried_or : T → List (ℕ × Option T) → T
  carried_or d [] = d
  carried_or d (c ∷ cs) = unwrap_or c.1 d

  some_is : (x y : S) → Some x ≡ Some y → x ≡ y
  some_is x y e = ap (λ (o : Option S). unwrap_or o x) e

  pub serves_next : (slots id : ℕ) (me : Held) (k : ℕ) (x : T) → me.0.role ≡ Holding k → me.0.lowest < me.0.end → me.1 ≡ (0, Some x) ∷ [] → GrewByTurn number me.0.lowest me.0.seen (entries x) → Some (start x) ≡ me.0.start
      → Allows Rule slots id me 1 (λ n. (n + 1) % 2 ^ 64) (ServesNext number entries start (step slots 1 1 0 none) me)
  serves_next slots id me k x holds wide carried adds begun s r deep at fits =
      let v : Seat = me.0 in
      let w : Seat = record me.0 { role = Idle; seen = entries x } in
      let know : Known r.issued r.served r.log v = r.each_seat id v at in
      let real = real_of r.issued r.served r.log v wide know in
      let fit = fits_of r.issued r.served r.log v (Holding k) wide holds know in
      let mine : HasTicket r.served v = subst (IsTicket r.served) (sym holds) fit.1 in
      let adds' : GrewByTurn number v.lowest r.log (entries x) = subst (λ (l : List E). GrewByTurn number v.lowest l (entries x)) fit.0 adds in
      let one : (hs : List (maybe.Option (Option T))) → (o : maybe.Option (Option T)) → hs ≡ o ∷ [] → set hs 0 (some (Some x)) ≡ some (Some x) ∷ [] = (λ hs o e. ap (λ (l : List (maybe.Option (Option T))). set l 0 (some (Some x))) e) in
      let back : put_back s.homes me.1 ≡ some (Some x) ∷ [] =
      ap (put_back s.homes) carried ∙ ⊎_elim (λ (home : (y : T) × (s.homes ≡ some (Some y) ∷ []) × (entries y ≡ r.log) × (start y ≡ begin)). one s.homes (some (Some home.0)) home.1)
      (λ (out : (s.homes ≡ none ∷ []) × ((j : ℕ) × (u : Seat) × (get_elem? s.views j ≡ some u) × IsHolding u.role)). one s.homes none out.0) r.slot in (
        w,
        gives,
        tt,
        record {
          issued = r.issued;
          served = r.served + 1;
          log = entries x;
          words_are = ap (λ (ws : List ℕ). slice_set ws 1 ((slice_index ws 1 + 1) % 2 ^ 64)) r.words_are ∙ ap (λ (n : ℕ). (r.issued % 2 ^ 64) ∷ n ∷ []) (mod_suc r.served);
          queue = let h = total_set tickets_of s.views id v w at in let z : tickets_of v ≡ 1 = ap tickets holds in let q = r.queue in omega arith;
          few = let h = total_set width s.views id v w at in let q = r.few in omega arith;
          known = ⊎_elim (λ (same : entries x ≡ r.log). subst (All (λ e. number e < workers)) (sym same) r.known)
              (λ (more : (e : E) × (entries x ≡ r.log ++ e ∷ []) × (number e ≡ v.lowest)).
              let a = real.within in
              let b = more.2 in
              subst (All (λ e. number e < workers)) (sym more.1) (All-push (λ e. number e < workers) r.log more.0 (omega arith) r.known))
              adds';
          each_seat = each_set (Known r.issued (r.served + 1) (entries x)) s.views id w
              (inr record { wide = wide; within = real.within; begun = real.begun; among = real.among; fits = others_none v.lowest v.end (entries x) })
              (λ j b other e. knows_served r.issued r.served v.lowest r.log (entries x) b adds'
              (λ has. other (r.apart v.lowest j id b v e at has (le_here v.lowest, wide)))
              (λ ticket. other (r.one_ticket r.served j id b v e at ticket mine)) (r.each_seat j b e));
          one_ticket = λ j. once_less (HasTicket j) s.views id v w at (λ h. absurd h) (r.one_ticket j);
          apart = λ n. once_less (HasNumber n) s.views id v w at (λ h. h) (r.apart n);
          slot = inl (x, back, refl, some_is (start x) begin (begun ∙ real.begun));
        },
        λ y is. λ i. let u : Seat = record me.0 { role = Idle; seen = entries (ap (carried_or x) (sym carried ∙ is) i) } in (u, rest (carried i)),
      )
    where
      le_here : (n : ℕ) → n ≤ n
      le_here n = omega arith

  others_less : (lowest end lowest' end' : ℕ) (seen later : List E) → lowest ≤ lowest' → end' ≤ end → GrewByOthers number lowest end seen later → GrewByOthers number lowest' end' seen later
  others_less lowest end lowest' end' seen later a b o = (o.0, o.1, λ k d l. outside_less (slice_index_or o.0 k d) (o.2 k d l))
    where
      outside_less : (e : E) → (number e < lowest) ⊎ (end ≤ number e) → (number e < lowest') ⊎ (end' ≤ number e)
      outside_less e = ⊎_elim (λ (l : number e < lowest). inl (omega arith)) (λ (l : end ≤ number e). inr (omega arith))

  pub splits_at : (id : ℕ) (v : Seat) (cut : ℕ) → v.role ≡ Idle → v.lowest < cut → cut < v.end → Splits Rule id v (below_cut cut v) (from_cut cut v)
  splits_at id v cut idle above below s r at =
      let left : Seat = record v { end = cut } in
      let right : Seat = record v { lowest = cut } in
      let vs : List Seat = set s.views id left in
      let know : Known r.issued r.served r.log v = r.each_seat id v at in
      let real = real_of r.issued r.served r.log v (omega arith) know in
      let within = real.within in
      let fit : GrewByOthers number v.lowest v.end v.seen r.log = fits_of r.issued r.served r.log v Idle (omega arith) idle know in
      let K : Seat → Type 0 = Known r.issued r.served r.log in
      let fits_left : Fits r.issued r.served r.log left v.role = subst (Fits r.issued r.served r.log left) (sym idle) (others_less v.lowest v.end v.lowest cut v.seen r.log (omega arith) (omega arith) fit) in
      let fits_right : Fits r.issued r.served r.log right v.role = subst (Fits r.issued r.served r.log right) (sym idle) (others_less v.lowest v.end cut v.end v.seen r.log (omega arith) (omega arith) fit) in
      record {
        issued = r.issued;
        served = r.served;
        log = r.log;
        words_are = r.words_are;
        queue = let h = total_set tickets_of s.views id v left at in let p = total_push tickets_of vs right in let z : tickets v.role ≡ 0 = ap tickets idle in let q = r.queue in omega arith;
        few = let h = total_set width s.views id v left at in let p = total_push width vs right in let q = r.few in omega arith;
        known = r.known;
        each_seat = each_push K vs right (inr record { wide = below; within = real.within; begun = real.begun; among = real.among; fits = fits_right })
            (each_set K s.views id left (inr record { wide = above; within = omega arith; begun = real.begun; among = real.among; fits = fits_left }) (λ j b other e. r.each_seat j b e));
        one_ticket = λ k. once_push (HasTicket k) vs right (λ h. absurd (subst (IsTicket k) idle h)) (once_less (HasTicket k) s.views id v left at (λ h. h) (r.one_ticket k));
        apart = λ n. once_push (HasNumber n) vs right
            (λ (h : (cut ≤ n) × (n < v.end)). let a = h.0 in let b = h.1 in
            each_set (λ (b : Seat). HasNumber n b → ⊥) s.views id left (λ (l : (v.lowest ≤ n) × (n < cut)). let c = l.1 in omega arith)
            (λ j b other e there. other (r.apart n j id b v e at there (omega arith, h.1))))
            (once_less (HasNumber n) s.views id v left at (λ (h : (v.lowest ≤ n) × (n < cut)). let a = h.1 in (h.0, omega arith)) (r.apart n));
        slot = slot_pushed r.issued r.served r.log s.homes vs right (slot_stays r.issued r.served r.log s.homes s.views id v left at (λ h. h) r.slot);
      }
    where
      slot_pushed : (issued served : ℕ) (log : List E) (homes : List (maybe.Option (Option T))) (views : List Seat) (w : Seat) → SlotIs issued served log homes views → SlotIs issued served log homes (views ++ w ∷ [])
      slot_pushed issued served log homes views w = ⊎_elim (λ t. inl t)
          (λ (t : (homes ≡ none ∷ []) × ((j : ℕ) × (u : Seat) × (get_elem? views j ≡ some u) × IsHolding u.role)). inr (t.0, (t.1.0, t.1.1, at_longer views (w ∷ []) t.1.0 t.1.1 t.1.2, t.1.3)))

  pub joins_pair : (id : ℕ) (v : Seat) (other : ℕ) (u : Seat) → v.role ≡ Idle → u.role ≡ Idle → v.lowest < v.end → u.lowest < u.end → u.lowest ≡ v.end → Merges Rule id v other u (joined_ranges v u) spent_seat
  joins_pair id v other u idle idle' wide wide' adjacent s r at apart there =
      let both : Seat = joined_ranges v u in
      let vs : List Seat = set s.views id both in
      let there' : get_elem? s.views other ≡ some u = sym (set_else s.views id other both apart) ∙ there in
      let know : Known r.issued r.served r.log v = r.each_seat id v at in
      let know' : Known r.issued r.served r.log u = r.each_seat other u there' in
      let real = real_of r.issued r.served r.log v wide know in
      let real' = real_of r.issued r.served r.log u wide' know' in
      let fit : GrewByOthers number v.lowest v.end v.seen r.log = fits_of r.issued r.served r.log v Idle wide idle know in
      let fit' : GrewByOthers number u.lowest u.end u.seen r.log = fits_of r.issued r.served r.log u Idle wide' idle' know' in
      let K : Seat → Type 0 = Known r.issued r.served r.log in
      let z : tickets v.role ≡ 0 = ap tickets idle in
      let z' : tickets u.role ≡ 0 = ap tickets idle' in
      record {
        issued = r.issued;
        served = r.served;
        log = r.log;
        words_are = r.words_are;
        queue = let h = total_set tickets_of s.views id v both at in let p = total_set tickets_of vs other u spent_seat there in let q = r.queue in omega arith;
        few = let h = total_set width s.views id v both at in let p = total_set width vs other u spent_seat there in let q = r.few in omega arith;
        known = r.known;
        each_seat = each_set K vs other spent_seat (inl (refl, le_here 0))
            (λ j b _ e. each_set K s.views id both
            (inr record {
              wide = omega arith;
              within = real'.within;
              begun = real.begun;
              among = real.among;
              fits = (omega arith, wide', subst (λ (m : ℕ). GrewByOthers number v.lowest m v.seen r.log) (sym adjacent) fit, fit');
            })
            (λ i c _ f. r.each_seat i c f) j b e);
        one_ticket = λ k. once_less (HasTicket k) vs other u spent_seat there (λ h. absurd h) (once_less (HasTicket k) s.views id v both at (λ h. absurd h) (r.one_ticket k));
        apart = λ n. subst (Once (HasNumber n)) (sym (set_swap s.views id other both spent_seat apart))
            (once_set (HasNumber n) (set s.views other spent_seat) id both
            (λ (h : (v.lowest ≤ n) × (n < u.end)) j b not e has.
            ⊎_elim (λ (t : (j ≡ other) × (spent_seat ≡ b)). nothing n (subst (HasNumber n) (sym t.1) has))
            (λ (t : (j ≢ other) × (get_elem? s.views j ≡ some b)).
            dite (dec_le v.end n)
            (λ le. t.0 (r.apart n j other b u t.1 there' has (omega arith, h.1)))
            (λ more. not (r.apart n j id b v t.1 at has (h.0, lt_of_not-le more))))
            (at_set s.views other j spent_seat b e))
            (once_less (HasNumber n) s.views other u spent_seat there' (λ h. absurd (nothing n h)) (r.apart n)));
        slot = slot_stays r.issued r.served r.log s.homes vs other u spent_seat there (λ h. absurd (no_holder u.role z' h)) (slot_stays r.issued r.served r.log s.homes s.views id v both at (λ h. absurd (no_holder v.role z h)) r.slot);
      }
    where
      le_here : (n : ℕ) → n ≤ n
      le_here n = omega arith

      nothing : (n : ℕ) → (0 ≤ n) × (n < 0) → ⊥
      nothing n h = let a = h.1 in omega arith

  abbrev SettledLists : ℕ → ℕ → ℕ → List E → List E → List E → List E → Type 0
  SettledLists lowest mid end a b l log = GrewByOthers number lowest mid a l × GrewByOthers number mid end b l × GrewByOthers number lowest end l log

  settled : (lowest mid end : ℕ) (a b log : List E) → lowest < mid → mid < end → GrewByOthers number lowest mid a log → GrewByOthers number mid end b log → (t : Bool) → ltb (length a) (length b) ≡ t → SettledLists lowest mid end a b (cond t b a) log
  settled lowest mid end a b log low high A B true is =
      let shorter = ltb-true (length a) (length b) is in
      let m = begins_longer a b A.0 B.0 (sym A.1 ∙ B.1) (omega arith) in
      let P : E → Type 0 = λ e. (number e < lowest) ⊎ (mid ≤ number e) in
      let all : All P (m.0 ++ B.0) = subst (All P) m.2 A.2 in (
        (m.0, m.1, All-front P m.0 B.0 all),
        others_none mid end b,
        (B.0, B.1, λ k d l. both (slice_index_or B.0 k d) (All-back P m.0 B.0 all k d l) (B.2 k d l)),
      )
    where
      both : (e : E) → (number e < lowest) ⊎ (mid ≤ number e) → (number e < mid) ⊎ (end ≤ number e) → (number e < lowest) ⊎ (end ≤ number e)
      both e p q = ⊎_elim (λ l. inl l) (λ (l : mid ≤ number e). ⊎_elim (λ (r : number e < mid). absurd (omega arith)) (λ r. inr r) q) p
  settled lowest mid end a b log low high A B false is =
      let shorter = ltb-false (length a) (length b) is in
      let m = begins_longer b a B.0 A.0 (sym B.1 ∙ A.1) shorter in
      let P : E → Type 0 = λ e. (number e < mid) ⊎ (end ≤ number e) in
      let all : All P (m.0 ++ A.0) = subst (All P) m.2 B.2 in (
        others_none lowest mid a,
        (m.0, m.1, All-front P m.0 A.0 all),
        (A.0, A.1, λ k d l. both (slice_index_or A.0 k d) (A.2 k d l) (All-back P m.0 A.0 all k d l)),
      )
    where
      both : (e : E) → (number e < lowest) ⊎ (mid ≤ number e) → (number e < mid) ⊎ (end ≤ number e) → (number e < lowest) ⊎ (end ≤ number e)
      both e p q = ⊎_elim (λ l. inl l) (λ (l : mid ≤ number e). ⊎_elim (λ (r : number e < mid). absurd (omega arith)) (λ r. inr r) q) p

  abbrev mid_of : Role E → ℕ
  mid_of (Joined m xs) = m
  mid_of _ = 0

  abbrev list_of : Role E → List E
  list_of (Joined m xs) = xs
  list_of _ = []

  pub settles_longer : (slots id : ℕ) (me : Held) (mid : ℕ) (xs : List E) → me.0.role ≡ Joined mid xs → me.0.lowest < me.0.end → Allows Rule slots id me 0 (λ n. n) (KeepsLonger number entries start (step slots 0 0 0 none) me)
  settles_longer slots id me mid xs joins wide s r deep at fits =
      let v : Seat = me.0 in
      let l : List E = longer v.seen xs in
      let w : Seat = record me.0 { role = Idle; seen = l } in
      let know : Known r.issued r.served r.log v = r.each_seat id v at in
      let real = real_of r.issued r.served r.log v wide know in
      let fit = fits_of r.issued r.served r.log v (Joined mid xs) wide joins know in
      let both = settled v.lowest mid v.end v.seen xs r.log fit.0 fit.1 fit.2 fit.3 (ltb (length v.seen) (length xs)) refl in (
        w,
        keeps,
        tt,
        record {
          issued = r.issued;
          served = r.served;
          log = r.log;
          words_are = set-get_or s.words 0 0 ∙ r.words_are;
          queue = let h = total_set tickets_of s.views id v w at in let z : tickets_of v ≡ 0 = ap tickets joins in let q = r.queue in omega arith;
          few = let h = total_set width s.views id v w at in let q = r.few in omega arith;
          known = r.known;
          each_seat = each_set (Known r.issued r.served r.log) s.views id w (inr record { wide = wide; within = real.within; begun = real.begun; among = real.among; fits = both.2 }) (λ j b other e. r.each_seat j b e);
          one_ticket = λ k. once_less (HasTicket k) s.views id v w at (λ h. absurd h) (r.one_ticket k);
          apart = λ n. once_less (HasNumber n) s.views id v w at (λ h. h) (r.apart n);
          slot = slot_stays r.issued r.served r.log s.homes s.views id v w at (λ h. subst IsHolding joins h) r.slot;
        },
        λ mid' xs' is. subst (λ (z : ℕ × List E). Settled' me mid xs z.0 z.1) (λ i. (mid_of ((sym joins ∙ is) i), list_of ((sym joins ∙ is) i))) (refl, both.0, both.1),
      )
    where
      Settled' : Held → ℕ → List E → ℕ → List E → Type 0
      Settled' me mid xs mid' xs' = (let a : Held = (record me.0 { role = Idle; seen = longer me.0.seen xs }, me.1) in let b : Held = (record me.0 { role = Idle; seen = longer me.0.seen xs' }, me.1) in a ≡ b) × GrewByOthers number me.0.lowest mid' me.0.seen (longer me.0.seen xs') × GrewByOthers number mid' me.0.end xs' (longer me.0.seen xs')

  pub opens : (x : T) → entries x ≡ [] → start x ≡ begin → 0 < workers → workers < 2 ^ 64 → Rule (opening (0 ∷ 0 ∷ []) (Some x ∷ []) (first_seat begin workers))
  opens x none_yet begun any few = record {
    issued = 0;
    served = 0;
    log = [];
    words_are = refl;
    queue = refl;
    few = omega arith;
    known = All-nil (λ e. number e < workers);
    each_seat = each_push (Known 0 0 []) [] (first_seat begin workers) (inr record { wide = any; within = omega arith; begun = refl; among = refl; fits = others_none 0 workers [] }) (each_none (Known 0 0 []));
    one_ticket = λ k. once_push (HasTicket k) [] (first_seat begin workers) (λ h. absurd h) (nobody (HasTicket k));
    apart = λ n. once_push (HasNumber n) [] (first_seat begin workers) (λ h. each_none (λ b. HasNumber n b → ⊥)) (nobody (HasNumber n));
    slot = inl (x, refl, none_yet, begun);
  }
    where
      nobody : (P : Seat → Type 0) → Once P []
      nobody P i j u v ei ej pu pv = absurd (some-ne-none u (sym ei))

  pub closes : (s : Table) (id : ℕ) (v : Seat) → Rule s → get_elem? s.views id ≡ some v → v.role ≡ Idle → v.lowest ≡ 0 → v.end ≡ workers → 0 < workers
      → (x : T) × (get_elem? s.homes 0 ≡ some (some (Some x))) × (entries x ≡ v.seen) × (start x ≡ begin)
  closes s id v r at idle low high any =
      let know : Known r.issued r.served r.log v = r.each_seat id v at in
      let fit : GrewByOthers number v.lowest v.end v.seen r.log = fits_of r.issued r.served r.log v Idle (omega arith) idle know in
      let whole : r.log ≡ v.seen = fit.1 ∙ (ap (λ (l : List E). v.seen ++ l) (nothing fit.0 v fit.2 low high (All-back (λ e. number e < workers) v.seen fit.0 (subst (All (λ e. number e < workers)) fit.1 r.known))) ∙ append-nil v.seen) in
      ⊎_elim
      (λ (home : (x : T) × (s.homes ≡ some (Some x) ∷ []) × (entries x ≡ r.log) × (start x ≡ begin)).
      (home.0, ap (λ (hs : List (maybe.Option (Option T))). get_elem? hs 0) home.1, home.2 ∙ whole, home.3))
      (λ (out : (s.homes ≡ none ∷ []) × ((j : ℕ) × (u : Seat) × (get_elem? s.views j ≡ some u) × IsHolding u.role)).
      let j = out.1.0 in
      let u = out.1.1 in
      let know' : Known r.issued r.served r.log u = r.each_seat j u out.1.2 in
      absurd (⊎_elim (λ (t : (u.role ≡ Idle) × (u.end ≤ u.lowest)). subst IsHolding t.0 out.1.3)
      (λ (t : IsSeated number begin workers r.issued r.served r.log u).
      let a = t.wide in
      let b = t.within in
      let same : id ≡ j = r.apart u.lowest id j v u at out.1.2 (omega arith, omega arith) (le_here u.lowest, t.wide) in
      let is : v ≡ u = some-injective v u (sym at ∙ (ap (get_elem? s.views) same ∙ out.1.2)) in
      subst IsHolding (ap (λ (y : Seat). y.role) (sym is) ∙ idle) out.1.3) know'))
      r.slot
    where
      le_here : (n : ℕ) → n ≤ n
      le_here n = omega arith

      nothing : (l : List E) (v : Seat) → All (λ e. (number e < v.lowest) ⊎ (v.end ≤ number e)) l → v.lowest ≡ 0 → v.end ≡ workers → All (λ e. number e < workers) l → l ≡ []
      nothing [] v out low high known = refl
      nothing (e ∷ es) v out low high known = let k = All-head (λ e. number e < workers) e es known in absurd (⊎_elim (λ (l : number e < v.lowest). let g : ⊥ = omega arith in g) (λ (l : v.end ≤ number e). let g : ⊥ = omega arith in g) (All-head (λ e. (number e < v.lowest) ⊎ (v.end ≤ number e)) e es out))

  pub closed_value : (id : ℕ) (v : Seat) (ws : List ℕ) (xs : List (Option T)) (o : Option T) → Final (Seen Rule id v) ws xs → get_elem? xs 0 ≡ some o → v.role ≡ Idle → v.lowest ≡ 0 → v.end ≡ workers → 0 < workers
      → (x : T) × (o ≡ Some x) × (entries x ≡ v.seen) × (start x ≡ begin)
  closed_value id v ws xs o final at idle low high any =
      let s = final.0 in
      let seen : Seen Rule id v s = final.1 in
      let c = closes s id v seen.0 seen.1 idle low high any in
      (c.0, some-injective o (Some c.0) (sym at ∙ final.4 0 (Some c.0) c.1), c.2, c.3)
