-- What a cache promises over every line of calls, for every key kind and every meaning of directory and order.
use Rattle.std.specs.Prelude.{◌≡◌, ℕ, ◌+◌, ◌-◌, ◌*◌, ◌≤◌, Bool, true, false, ◌⊎◌, List, ◌∷◌, ◌++◌, length, Some, None, Ok, Err, ◌≢◌}
use Rattle.directories.specs.Meaning.{key_at}
use Rattle.promises.specs.declared.answers.Refusal.{Refusal}
use Rattle.promises.specs.declared.answers.Refusal.TheVariants.{OnLease, ShortSlab}
use Rattle.promises.specs.declared.answers.Presence.TheVariants.{Out}
use Rattle.promises.specs.declared.records.Ticket.{Ticket}
use Rattle.promises.specs.Numbers.{number_of}
use Rattle.promises.specs.State.{State, Sound, slots, held_slot, record_at, known}
use Rattle.promises.specs.Events.{Event, gets, keeps, leases, writes, gives_back, drops, tells, effect, request_of, removal_of, eviction_of, price_of, Each, paid, evictions, lent, lendings, returns, one_if}
use Rattle.promises.specs.Lines.{Making, made, chunk_size, Line}
use Rattle.promises.specs.GreedyDual.{dual, use_of, outcome_of_use, answered}
use Rattle.promises.specs.Rivals.{Rival}
use Rattle.promises.specs.History.{Priced, same_as, touch_by, last_value, slab_in, slab_left, writes_under, owned}

module _ {K : Type 0} (same : K → K → Bool) where
  -- Competitiveness. If accepted calls give same keys one cost, then against every rival with h slots, 1 ≤ h ≤ N, that is fed the
  -- same calls, N - h + 1 times what we paid is at most N times what the rival paid.
  abbrev pub Competitive : ℕ → List (Event K) → Type 0
  Competitive n es =
      (cost : K → ℕ) → ((a b : K) → same a b ≡ true → cost a ≡ cost b) → Each (λ e before. Priced same cost (price_of (effect e))) es
      → (h : ℕ) → 1 ≤ h → h ≤ n → (keys : List K) (theirs : ℕ) → Rival same cost h es keys theirs
      → ((n - h) + 1) * paid es ≤ n * theirs

  -- Waiting. While a region waits untouched after a touch at cost c, at most (c + 1) * (N - 1) evictions are answered.

  -- an event that neither requests nor drops nor evicts the key
  pub record Untouched (k : K) (e : Event K) : Type 0 where
    pub not_requested : same_as same k (request_of (effect e)) ≡ false
    pub not_dropped : same_as same k (removal_of (effect e)) ≡ false
    pub not_evicted : same_as same k (eviction_of (effect e)) ≡ false

  abbrev pub WaitingBounded : ℕ → List (Event K) → Type 0
  WaitingBounded n es =
      (since before : List (Event K)) (e : Event K) (k : K) (c : ℕ) → es ≡ since ++ (e ∷ before)
      → touch_by same (effect e) before k ≡ Some c → Each (λ d earlier. Untouched k d) since
      → evictions since ≤ (c + 1) * (n - 1)

  -- What a lease protects. From an accepted lease of k until the accepted give-back of its ticket, every call is answered so: state tells
  -- out, a get does not miss it, lease and drop of it are refused by 6, keep by 6 or for its own cost, value or slab, and it is not evicted.
  abbrev pub Barred : Refusal → Type 0
  Barred r = (r ≡ OnLease) ⊎ (number_of r ≤ number_of ShortSlab)

  abbrev pub AnswersWhileOut : K → Event K → Type 0
  AnswersWhileOut k (gets l slab (Err r)) = Unit {0}
  AnswersWhileOut k (gets l slab (Ok None)) = same l k ≡ false
  AnswersWhileOut k (gets l slab (Ok (Some p))) = Unit {0}
  AnswersWhileOut k (keeps l c v slab (Err r) after) = same l k ≡ true → Barred r
  AnswersWhileOut k (keeps l c v slab (Ok a) after) = (same l k ≡ false) × (same_as same k (eviction_of (effect (keeps l c v slab (Ok a) after))) ≡ false)
  AnswersWhileOut k (leases l (Err r)) = same l k ≡ true → r ≡ OnLease
  AnswersWhileOut k (leases l (Ok t)) = same l k ≡ false
  AnswersWhileOut k (writes t v slab a after) = Unit {0}
  AnswersWhileOut k (gives_back t a) = Unit {0}
  AnswersWhileOut k (drops l (Err r)) = same l k ≡ true → r ≡ OnLease
  AnswersWhileOut k (drops l (Ok u)) = same l k ≡ false
  AnswersWhileOut k (tells l p) = same l k ≡ true → p ≡ Out

  abbrev pub StaysOut : List (Event K) → Type 0
  StaysOut es = Each (λ e before. (t : Ticket) (k : K) → lent before t ≡ Some k → AnswersWhileOut k e) es

  -- The host's duty over a line: each slab enters a call with the length and bytes that the last call with a slab left.
  abbrev pub Dutiful : List (Event K) → Type 0
  Dutiful es = Each (λ e before. (x y : List ℕ) → slab_in e ≡ Some x → slab_left before ≡ Some y → x ≡ y) es

  -- under the duty an accepted get of any held key answers its last accepted value
  abbrev pub AnswersValue : Event K → List (Event K) → Type 0
  AnswersValue (gets k slab (Err r)) es = Unit {0}
  AnswersValue (gets k slab (Ok None)) es = Unit {0}
  AnswersValue (gets k slab (Ok (Some p))) es = p.bytes ≡ last_value same es k
  AnswersValue (keeps k c v slab a after) es = Unit {0}
  AnswersValue (leases k a) es = Unit {0}
  AnswersValue (writes t v slab a after) es = Unit {0}
  AnswersValue (gives_back t a) es = Unit {0}
  AnswersValue (drops k a) es = Unit {0}
  AnswersValue (tells k p) es = Unit {0}

  -- while a ticket is out, only accepted writes under it change the region's value, and so its length ..
  abbrev pub ValueKept : List (Event K) → Type 0
  ValueKept es = Each (λ e before. (t : Ticket) (k : K) → lent before t ≡ Some k → writes_under t (effect e) ≡ false → last_value same (e ∷ before) k ≡ last_value same before k) es

  -- .. and, under the duty, any of the bytes that its slot owns
  abbrev pub BytesKept : ℕ → List (Event K) → Type 0
  BytesKept chunk es = Each (λ e before. (t : Ticket) (k : K) → lent before t ≡ Some k → writes_under t (effect e) ≡ false
      → (x y : List ℕ) → slab_left before ≡ Some x → slab_left (e ∷ before) ≡ Some y → owned chunk t.slot x ≡ owned chunk t.slot y) es

  -- a region that is out is held at its ticket's slot, and the cache knows the ticket
  abbrev pub HeldOut : List (Event K) → State K → Type 0
  HeldOut es s = (t : Ticket) (k : K) → lent es t ≡ Some k → (held_slot same s k ≡ Some t.slot) × (known s.table t ≡ true)

  -- GreedyDual. Each event's hit, charge and eviction are those of GreedyDual with N slots over the events before it.
  abbrev pub IsGreedyDual : ℕ → List (Event K) → Type 0
  IsGreedyDual n es = Each (λ e before. answered e ≡ outcome_of_use same n (dual same n before) (use_of same before e)) es

  -- the bytes of two slots never overlap
  abbrev pub Apart : ℕ → Type 0
  Apart chunk = (i j : ℕ) → (i ≢ j) → (i * chunk + chunk ≤ j * chunk) ⊎ (j * chunk + chunk ≤ i * chunk)

  -- the whole promise of a line that leads from a making to a state
  pub record Promised (m : Making K) (es : List (Event K)) (s : State K) : Type 0 where
    pub competitive : Competitive (slots (made m)) es
    pub waiting_bounded : WaitingBounded (slots (made m)) es
    pub stays_out : StaysOut es
    pub held_out : HeldOut es s
    pub one_lease : (t : Ticket) → lendings es t ≡ returns es t + one_if (lent es t)
    pub value_kept : ValueKept es
    pub bytes_kept : Dutiful es → BytesKept (chunk_size m.chunk) es
    pub last_value_answered : Dutiful es → Each AnswersValue es
    pub lengths_kept : (i : ℕ) (k : K) → key_at s.directory i ≡ Some k → (record_at s.table i).len ≡ length (last_value same es k)
    pub greedy_dual : IsGreedyDual (slots (made m)) es
    pub sound : Sound same s
    pub parts_apart : Apart (chunk_size m.chunk)

  -- every line from a making keeps the promise: the empty one, and every one that follows
  abbrev pub FromMaking : Making K → Type 0
  FromMaking m = (es : List (Event K)) (s : State K) → Line same m es s → Promised m es s

  abbrev pub EveryLine : Type 0
  EveryLine = (m : Making K) → FromMaking m

  -- one more event on any line that leads to the state s keeps it
  abbrev pub GoesOn : State K → Event K → State K → Type 0
  GoesOn s e t = (m : Making K) (es : List (Event K)) → Line same m es s → Promised m (e ∷ es) t
