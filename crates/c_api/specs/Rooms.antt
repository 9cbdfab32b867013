-- What a call writes into the host's room.
use Rattle.std.specs.Prelude.{◌≡◌, ◌⊎◌, ℕ, nat_lt, MatchBool, List, ◌++◌, length, drop, Result}
use Rattle.std.specs.Prelude.{Ok, Err}
use Rattle.c_api.specs.declared.code.TheConstants.{MEMORY, ROOM}

-- the call's number, the room and the length say these items: 0, and the room begins with them; or
-- ROOM if the room is too small, and it is unchanged
abbrev pub IsPut : {A : Type 0} → ℕ → List A → List A → ℕ → List A → Type 0
IsPut code old new len items = (len ≡ length items)
    × MatchBool (nat_lt (length old) (length items)) ((code ≡ ROOM) × (new ≡ old))
    ((code ≡ 0) × (new ≡ items ++ drop (length items) old))

-- a call's number, its rooms and what they take say this refusal, and nothing is changed
abbrev pub IsRefused : {A B : Type 0} → ℕ → A → A → B → B → ℕ → Type 0
IsRefused code old new size_old size_new number =
    (code ≡ number) × (new ≡ old) × (size_new ≡ size_old)

-- they say this answer: its items, or the refusal's number, and nothing is changed
abbrev pub IsWritten : {A : Type 0} → ℕ → List A → List A → ℕ → ℕ → Result (List A) ℕ → Type 0
IsWritten code old new len_old len_new (Ok items) = IsPut code old new len_new items
IsWritten code old new len_old len_new (Err n) = IsRefused code old new len_old len_new n

-- the same, or 99 for want of memory, and nothing is changed
abbrev pub IsWrittenOrMemory : {A : Type 0} → ℕ → List A → List A → ℕ → ℕ →
    Result (List A) ℕ → Type 0
IsWrittenOrMemory code old new len_old len_new answer =
    IsWritten code old new len_old len_new answer ⊎ IsRefused code old new len_old len_new MEMORY
