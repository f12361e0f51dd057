-- Inner: the rule of the gate's table, and what each step tells the seat that makes it. No contract of the gate cites it.
use Rattle.std.specs.Prelude.{◌≡◌, ◌≢◌, ◌⊎◌, ℕ, ◌+◌, ◌-◌, ◌%◌, ◌^◌, ◌<◌, ◌≤◌, List, [], ◌∷◌, All, Option, Some, None}
use mathlib.Core.Option.{some, none}
use mathlib.Core.Option as maybe
use lib.ListN.{get_elem?}
use Rattle.atomic_table.specs.Table.{State, Me, Step}
use Rattle.cd_gate.specs.Histories.{GrewByOthers, GrewByTurn, longer}
use Rattle.cd_gate.specs.declared.seat_state.Role.{Role}
use Rattle.cd_gate.specs.declared.seat_state.Role.TheVariants.{Idle, Waiting, Holding, Joined}
use Rattle.cd_gate.specs.declared.seat_state.SeatState.{SeatState}

-- ---- lists, read as the table reads them

abbrev pub total : {A : Type 0} → (A → ℕ) → List A → ℕ
total f [] = 0
total f (x ∷ xs) = f x + total f xs

abbrev pub Each : {A : Type 0} → (A → Type 0) → List A → Type 0
Each P xs = (k : ℕ) (x : _) → get_elem? xs k ≡ some x → P x

-- at most one is so
abbrev pub Once : {A : Type 0} → (A → Type 0) → List A → Type 0
Once {A} P xs = (i j : ℕ) (a b : A) → get_elem? xs i ≡ some a → get_elem? xs j ≡ some b → P a → P b → i ≡ j

-- ---- tickets: the words of the table count them modulo 2^64

abbrev pub IsTicketOf : ℕ → ℕ → Type 0
IsTicketOf k word = word ≡ k % 2 ^ 64

module _ {E : Type 0} where
  abbrev pub IsTicket : ℕ → Role E → Type 0
  IsTicket k Idle = ⊥
  IsTicket k (Waiting j) = j ≡ k
  IsTicket k (Holding j) = j ≡ k
  IsTicket k (Joined m xs) = ⊥

  abbrev pub IsHolding : Role E → Type 0
  IsHolding Idle = ⊥
  IsHolding (Waiting j) = ⊥
  IsHolding (Holding j) = Unit {0}
  IsHolding (Joined m xs) = ⊥

  abbrev pub tickets : Role E → ℕ
  tickets Idle = 0
  tickets (Waiting j) = 1
  tickets (Holding j) = 1
  tickets (Joined m xs) = 0

-- ---- seats

module _ {E S : Type 0} where
  abbrev pub HasTicket : ℕ → SeatState E S → Type 0
  HasTicket k v = IsTicket k v.role

  abbrev pub HasNumber : ℕ → SeatState E S → Type 0
  HasNumber n v = (v.lowest ≤ n) × (n < v.end)

  abbrev pub tickets_of : SeatState E S → ℕ
  tickets_of v = tickets v.role

  abbrev pub width : SeatState E S → ℕ
  width v = v.end - v.lowest

  abbrev pub spent_seat : SeatState E S
  spent_seat = record { role = Idle; lowest = 0; end = 0; seen = []; start = None; workers = 0 }

  abbrev pub first_seat : S → ℕ → SeatState E S
  first_seat begin workers = record {
    role = Idle;
    lowest = 0;
    end = workers;
    seen = [];
    start = Some begin;
    workers = workers;
  }

  abbrev pub below_cut : ℕ → SeatState E S → SeatState E S
  below_cut at v = record v { end = at }

  abbrev pub from_cut : ℕ → SeatState E S → SeatState E S
  from_cut at v = record v { lowest = at }

  -- the numbers of both, with the second list beside the first until the longer one is kept
  abbrev pub joined_ranges : SeatState E S → SeatState E S → SeatState E S
  joined_ranges v u = record v { role = Joined u.lowest u.seen; end = u.end }

  -- the numbers of both, and of the two lists the longer one
  abbrev pub grown_seat : SeatState E S → SeatState E S → SeatState E S
  grown_seat v u = record v { role = Idle; end = u.end; seen = longer v.seen u.seen }

-- ---- the rule

module _ {E S : Type 0} (number : E → ℕ) (begin : S) (workers issued served : ℕ) (log : List E) where
  -- what a seat has seen is the front of the history, and the rest of it is of others; who holds the value has seen all
  abbrev pub FitsRole : SeatState E S → Role E → Type 0
  FitsRole v Idle = GrewByOthers number v.lowest v.end v.seen log
  FitsRole v (Waiting k) = GrewByOthers number v.lowest v.end v.seen log × (served ≤ k) × (k < issued)
  FitsRole v (Holding k) = (v.seen ≡ log) × (k ≡ served) × (k < issued)
  FitsRole v (Joined m xs) = (v.lowest < m) × (m < v.end)
      × GrewByOthers number v.lowest m v.seen log × GrewByOthers number m v.end xs log

  pub record IsSeated (v : SeatState E S) : Type 0 where
    pub wide : v.lowest < v.end
    pub within : v.end ≤ workers
    pub begun : v.start ≡ Some begin
    pub among : v.workers ≡ workers
    pub fits : FitsRole v v.role

  abbrev pub IsSpentOrSeated : SeatState E S → Type 0
  IsSpentOrSeated v = ((v.role ≡ Idle) × (v.end ≤ v.lowest)) ⊎ IsSeated v

  -- the value is at home, or a seat has it
  abbrev pub HasSlot : {T : Type 0} → (T → List E) → (T → S)
      → List (maybe.Option (Option T)) → List (SeatState E S) → Type 0
  HasSlot {T} entries start homes views =
      ((x : T) × (homes ≡ some (Some x) ∷ []) × (entries x ≡ log) × (start x ≡ begin))
      ⊎ ((homes ≡ none ∷ []) × ((j : ℕ) × (v : SeatState E S) × (get_elem? views j ≡ some v) × IsHolding v.role))

module _ {T E S : Type 0} (number : E → ℕ) (entries : T → List E) (start : T → S) where
  -- so many tickets were issued and served, and this is the history
  pub record IsGateState (begin : S) (workers : ℕ) (s : State (Option T) (SeatState E S)) : Type 0 where
    pub issued : ℕ
    pub served : ℕ
    pub log : List E
    pub words_are : s.words ≡ (issued % 2 ^ 64) ∷ (served % 2 ^ 64) ∷ []
    pub queue : total tickets_of s.views + served ≡ issued
    pub few : total width s.views < 2 ^ 64
    pub known : All (λ e. number e < workers) log
    pub each_seat : Each (IsSpentOrSeated number begin workers issued served log) s.views
    pub one_ticket : (k : ℕ) → Once (HasTicket k) s.views
    pub apart : (n : ℕ) → Once (HasNumber n) s.views
    pub slot : HasSlot number begin workers issued served log entries start s.homes s.views

  -- ---- what the steps tell

  abbrev Held : Type 0
  Held = Me (Option T) (SeatState E S)

  abbrev At : Type 0
  At = Step (Option T)

  -- a seat that waits for the turn of this ticket; one that has it, with the value x; one that took the value out
  abbrev pub waiting : ℕ → Held → Held
  waiting k m = (record m.0 { role = Waiting k }, m.1)

  abbrev pub holding : ℕ → T → Held → Held
  holding k x m = (record m.0 { role = Holding k; seen = entries x }, (0, Some x) ∷ m.1)

  abbrev pub emptied : ℕ → T → Held → Held
  emptied k x m = (record m.0 { role = Holding k; seen = entries x }, (0, None) ∷ [])

  -- a seat that gave the value x back
  abbrev pub served : T → Held → Held
  served x m = (record m.0 { role = Idle; seen = entries x }, [])

  -- what a seat learns of the history when it gets the value x
  abbrev pub HasCome : SeatState E S → T → Type 0
  HasCome v x = GrewByOthers number v.lowest v.end v.seen (entries x)
      × All (λ e. number e < v.workers) (entries x) × (Some (start x) ≡ v.start)

  -- the seat has a ticket, the number that was found
  abbrev pub TakesTicket : At → Held → ℕ → Held → Type 0
  TakesTicket st m n m' = (k : ℕ) × IsTicketOf k n × (m' ≡ waiting k m)

  -- where the number found is its ticket, the seat has the value, and has seen its whole list
  abbrev pub LooksAtServed : At → Held → ℕ → Held → Type 0
  LooksAtServed st m n m' = (k : ℕ) → m.0.role ≡ Waiting k
      → (IsTicketOf k n → (x : T) × (m' ≡ holding k x m) × HasCome m.0 x) × (n ≢ k % 2 ^ 64 → m' ≡ m)

  -- the value is given back, and the seat has seen its list
  abbrev pub ServesNext : At → Held → ℕ → Held → Type 0
  ServesNext st m n m' = (x : T) → m.1 ≡ (0, Some x) ∷ [] → m' ≡ served x m

  -- of two lists that were seen the longer one stays
  abbrev pub KeepsLonger : At → Held → ℕ → Held → Type 0
  KeepsLonger st m n m' = (mid : ℕ) (xs : List E) → m.0.role ≡ Joined mid xs
      → (m' ≡ (record m.0 { role = Idle; seen = longer m.0.seen xs }, m.1))
      × GrewByOthers number m.0.lowest mid m.0.seen (longer m.0.seen xs)
      × GrewByOthers number mid m.0.end xs (longer m.0.seen xs)

  -- ---- between the steps of a turn

  -- the turn of this ticket was waited for, and the value x came with it
  abbrev pub GotTurn : Held → ℕ → Held → T → Type 0
  GotTurn m k m' x = (m' ≡ holding k x m) × HasCome m.0 x

  -- the turn of this ticket is done, and the value x is to be given back
  abbrev pub HasDone : Held → ℕ → T → Type 0
  HasDone m k x = (m.0.role ≡ Holding k) × (m.1 ≡ (0, Some x) ∷ [])
      × GrewByTurn number m.0.lowest m.0.seen (entries x) × (Some (start x) ≡ m.0.start)
