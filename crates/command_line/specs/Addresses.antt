-- The addresses that options name, and at which a replica may listen.
use Rattle.std.specs.Prelude.{◌≡◌, ◌⊎◌, ℕ, List, Option, Some, None, map, option_map, true}
use Rattle.std.specs.Net.Addr.{IsLoopbackV4, IsLoopbackV6, MatchIp}
use Rattle.std.specs.Net.Grammar.{IsSocketText}
use Rattle.std.specs.Net.Socket.{socket_ip, socket_port}
use Rattle.std.specs.declared.net.socket_addr.SocketAddr.{SocketAddr}
use Rattle.command_line.specs.OptionTexts.{SaysFlag, option_said}
use Rattle.command_line.specs.declared.command_name.OptionName.{OptionName}
use Rattle.command_line.specs.declared.words.Call.{Call}

-- the text that the arguments give an option
abbrev pub said_by : Call → OptionName → Option (List ℕ)
said_by call option = option_said call.name (map (option_map (λ t. t.now)) call.texts.items) option

abbrev pub IsNoAddress : List ℕ → Type 0
IsNoAddress text = (address : SocketAddr) → IsSocketText text address → ⊥

-- an address with a port that another program can know: not 0, for which the system chooses one
abbrev pub IsKnownAddress : List ℕ → SocketAddr → Type 0
IsKnownAddress text address = IsSocketText text address × (socket_port address ≡ 0 → ⊥)

abbrev pub IsUnknownAddress : List ℕ → Type 0
IsUnknownAddress text = IsNoAddress text
    ⊎ ((address : SocketAddr) × IsSocketText text address × (socket_port address ≡ 0))

-- A replica may listen at a loopback address, or at any if the flag says so.
abbrev pub MayListen : (anywhere : Option (List ℕ)) → SocketAddr → Type 0
MayListen anywhere address = MatchIp (socket_ip address) IsLoopbackV4 IsLoopbackV6
    ⊎ SaysFlag anywhere true

-- At what it listens by the text of an option: at nothing without one, or there, if it may.
abbrev pub Listens : (Names : List ℕ → SocketAddr → Type 0) (anywhere text : Option (List ℕ))
    → Option SocketAddr → Type 0
Listens Names anywhere None address = address ≡ None
Listens Names anywhere (Some text) None = ⊥
Listens Names anywhere (Some text) (Some address) =
    Names text address × MayListen anywhere address

-- It is refused: the text names no such address, or one at which it may not.
abbrev pub ListensNowhere : (NamesNone : List ℕ → Type 0) (Names : List ℕ → SocketAddr → Type 0)
    (anywhere text : Option (List ℕ)) → Type 0
ListensNowhere NamesNone Names anywhere None = ⊥
ListensNowhere NamesNone Names anywhere (Some text) = NamesNone text
    ⊎ ((address : SocketAddr) × Names text address × (MayListen anywhere address → ⊥))
