-- The scope's table of refusals, in its order: given exactly when; returned beside it.
use Rattle.std.specs.Prelude.{ℕ}

-- a bad setting at start, or a seen max above the store's length / 129, rounded down; nothing
abbrev pub bad_setting : ℕ
bad_setting = 40

-- a store of the wrong length (seen alone: not whole rows, or above 256); nothing
abbrev pub bad-store : ℕ
bad-store = 41

-- node and stores not well formed; nothing
abbrev pub malformed : ℕ
malformed = 42

-- an id above 129 bytes given to the seen part; its length
abbrev pub too_long-id : ℕ
too_long-id = 33

-- body above 65,536 bytes; its length
abbrev pub too_large : ℕ
too_large = 10

-- varint short; nothing
abbrev pub buffer-too_short : ℕ
buffer-too_short = 1

-- varint overflow; nothing
abbrev pub overflow : ℕ
overflow = 2

-- varint not minimal; nothing
abbrev pub non_canonical : ℕ
non_canonical = 3

-- field passes the end; offset, length, remaining
abbrev pub field-overflow : ℕ
field-overflow = 4

-- wire type; type, offset
abbrev pub unsupported-wire_type : ℕ
unsupported-wire_type = 5

-- field number; number, offset
abbrev pub invalid_field-number : ℕ
invalid_field-number = 6

-- an end tag with no open group, or of another number, where groups are passed over; nothing
abbrev pub end-group : ℕ
end-group = 14

-- groups deeper than 32; nothing
abbrev pub group-depth : ℕ
group-depth = 15

-- the body, or a submessage, ended inside a group; nothing
abbrev pub group_open : ℕ
group_open = 16

-- topic not UTF-8; offset
abbrev pub invalid_utf8 : ℕ
invalid_utf8 = 7

-- above 512 records; their number
abbrev pub too_many-records : ℕ
too_many-records = 11

-- no message at that index; number of messages
abbrev pub no-message : ℕ
no-message = 20

-- from missing; nothing
abbrev pub missing-from : ℕ
missing-from = 21

-- from of 0 or above 64 bytes; its length
abbrev pub invalid_from : ℕ
invalid_from = 22

-- from not a peer id; nothing
abbrev pub not-peer_id : ℕ
not-peer_id = 34

-- seqno missing, 0 or above 64 bytes; nothing
abbrev pub invalid_seqno : ℕ
invalid_seqno = 23

-- no signature, with key; nothing
abbrev pub key-without-signature : ℕ
key-without-signature = 24

-- no signature, without key; nothing
abbrev pub missing-signature : ℕ
missing-signature = 25

-- signature not 64 bytes; its length
abbrev pub invalid_signature-length : ℕ
invalid_signature-length = 26

-- a present key that does not decode; nothing
abbrev pub invalid_key : ℕ
invalid_key = 35

-- key and from differ, or no key to be had; nothing
abbrev pub key_mismatch : ℕ
key_mismatch = 36

-- host did not verify; nothing
abbrev pub signature_invalid : ℕ
signature_invalid = 27

-- 0 or above 4 topics; their number
abbrev pub topic-count : ℕ
topic-count = 28

-- a topic above 1,024 bytes (advertise and `gossip_ids` too); its length
abbrev pub topic-too_long : ℕ
topic-too_long = 29

-- message above 4,096 bytes; its length
abbrev pub message-too_long : ℕ
message-too_long = 30

-- now below the clock; the clock
abbrev pub clock-back : ℕ
clock-back = 31

-- an RPC to be written above 65,536 bytes; its length
abbrev pub rpc-too_long : ℕ
rpc-too_long = 13

-- room short: record table, tested first, then output, or serve's first message; room needed, of the one found short
abbrev pub short-room : ℕ
short-room = 12
