-- What contracts see of a reader, and of what a call returned.
use Rattle.std.specs.Prelude.{◌≡◌, ◌<◌, ◌≤◌, ℕ, List, length, Result, Ok, Err, String, string_bytes}
use Rattle.saphyr_input.specs.declared.input.Input.{Ghosts}
use Rattle.saphyr_scalar.specs.declared.scalar.fault.Refusal.{Refusal}
use Rattle.saphyr_scalar.specs.declared.scalar.fault.Stop.{Stop}
use Rattle.saphyr_scalar.specs.declared.scalar.fault.Stop.TheVariants as stop
use Rattle.saphyr_scalar.specs.declared.scalar.reader.Reader.{Reader}
use Rattle.saphyr_scalar.specs.Views.Cursor.{Cursor}

abbrev pub cursor_of : {T : Type 0} {g : Ghosts T} → Reader T g → Cursor
cursor_of {T} {g} r = record { rest = g.rest r.input; mark = r.mark; blank_so_far = r.blank_so_far }

-- how many places are loaded
abbrev pub loaded : {T : Type 0} {g : Ghosts T} → Reader T g → ℕ
loaded {T} {g} r = g.loaded r.input

-- What a call returned and left is what the function gives.
abbrev pub Gives : {X Y : Type 0} → (X → Y) → Result X Refusal → Result Y Refusal → Type 0
Gives view (Ok x) f = f ≡ Ok (view x)
Gives view (Err e) f = f ≡ Err e

-- A call that stopped was refused as the function is, or memory ran out.
abbrev pub Fails : {Y : Type 0} → Stop → Result Y Refusal → Type 0
Fails stop.OutOfMemory f = Unit {0}
Fails (stop.Refused e) f = f ≡ Err e

-- What a call returned and left is what the function gives, unless memory ran out.
abbrev pub Moves : {X Y : Type 0} → (X → Y) → Result X Stop → Result Y Refusal → Type 0
Moves view (Ok x) f = f ≡ Ok (view x)
Moves view (Err e) f = Fails e f

-- A part was read: what was to be read before is what is read now, unless memory ran out.
abbrev pub ReadsOn : {X Y : Type 0} → Result X Stop → Result Y Refusal → Result Y Refusal → Type 0
ReadsOn (Ok x) before now = now ≡ before
ReadsOn (Err e) before now = Fails e before

-- ## What a call gives and leaves, by a function on the cursor that it takes

-- What a call returned, which `view` shows with the reader that it left, is what the function gives.
abbrev pub GivesAs
    : {X Y T : Type 0} {g : Ghosts T}
    → (X → Cursor → Y) → (Cursor → Result Y Refusal) → Reader T g → Result X Refusal → Reader T g → Type 0
GivesAs view f old result new = Gives (λ x. view x (cursor_of new)) result (f (cursor_of old))

-- the same of a value that shows as it is
abbrev pub GivesBy
    : {X T : Type 0} {g : Ghosts T}
    → (Cursor → Result (X × Cursor) Refusal) → Reader T g → Result X Refusal → Reader T g → Type 0
GivesBy f = GivesAs (λ x s. (x, s)) f

-- the same of a call that returns nothing: the reader that it left is what the function gives
abbrev pub PassesBy
    : {T : Type 0} {g : Ghosts T}
    → (Cursor → Result Cursor Refusal) → Reader T g → Result (Unit {0}) Refusal → Reader T g → Type 0
PassesBy f = GivesAs (λ _ s. s) f

-- What a call returned, which `view` shows with the reader that it left, is what the function gives, unless memory ran
-- out.
abbrev pub ReadsBy
    : {X Y T : Type 0} {g : Ghosts T}
    → (X → Cursor → Y) → (Cursor → Result Y Refusal) → Reader T g → Result X Stop → Reader T g → Type 0
ReadsBy view f old result new = Moves (λ x. view x (cursor_of new)) result (f (cursor_of old))

-- the same of a text, which shows as its bytes
abbrev pub ReadsTextBy
    : {Z T : Type 0} {g : Ghosts T}
    → (Cursor → Result (List ℕ × Cursor) Refusal) → Reader T g → Result (String Z) Stop → Reader T g → Type 0
ReadsTextBy f = ReadsBy (λ text s. (string_bytes text, s)) f

-- The same of a call that goes on with a text as well: the function takes the bytes of the text, and `view` shows what
-- the call returned with the bytes of the text that it left and with the reader.
abbrev pub WritesBy
    : {X Y Z T : Type 0} {g : Ghosts T}
    → (X → List ℕ → Cursor → Y) → (List ℕ → Cursor → Result Y Refusal)
    → String Z → Reader T g → Result X Stop → String Z → Reader T g → Type 0
WritesBy view f text old result grown new =
    Moves (λ x. view x (string_bytes grown) (cursor_of new)) result (f (string_bytes text) (cursor_of old))

-- the text and the reader, where a call returns nothing
abbrev pub text_alone : Unit {0} → List ℕ → Cursor → List ℕ × Cursor
text_alone _ text s = (text, s)

-- the same of a call that returns nothing and refuses nothing
abbrev pub AppendsBy
    : {Z T : Type 0} {g : Ghosts T}
    → (List ℕ → Cursor → List ℕ × Cursor)
    → String Z → Reader T g → Result (Unit {0}) Stop → String Z → Reader T g → Type 0
AppendsBy f = WritesBy text_alone (λ text s. Ok (f text s))

-- no more of the text remains than before
abbrev pub IsNoLonger : {T : Type 0} {g : Ghosts T} → Reader T g → Reader T g → Type 0
IsNoLonger old new = length (cursor_of new).rest ≤ length (cursor_of old).rest

-- less of the text remains than before
abbrev pub IsShorter : {T : Type 0} {g : Ghosts T} → Reader T g → Reader T g → Type 0
IsShorter old new = length (cursor_of new).rest < length (cursor_of old).rest
