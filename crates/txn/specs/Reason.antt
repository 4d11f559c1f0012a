-- The reasons for which a block is refused: their numbers and their texts.
use Rattle.std.specs.Prelude.{ℕ, List, ◌++◌, codes}
use Rattle.std.specs.Fmt.{decimal}
use Rattle.txn.specs.declared.reason.Reason.{Reason}
use Rattle.txn.specs.declared.reason.Reason.TheVariants.{HighHash, BadMerkleRoot, DuplicateTransactions, BadBlockLength, CoinbaseMissing, CoinbaseMultiple, NoInputs, NoOutputs, OutputNegative, OutputTooLarge, OutputSumTooLarge, DuplicateInputs, CoinbaseLength, NullPrevout, TooManySigops, ParentNotFound, ParentInvalid, WrongBits, TimeTooOld, TimeTooNew, BadVersion, NonFinal, CoinbaseHeight, OverwritesCoin, InputsMissingOrSpent, PrematureCoinbaseSpend, InputsBelowOutputs, CoinbaseAmount, ScriptRefused}

-- in the order in which the rules are tested: 1 to 15 of the block alone, 16 to 23 of its place in the
-- tree, and the others of the coins that it finds
abbrev pub number_of : Reason → ℕ
number_of HighHash = 1
number_of BadMerkleRoot = 2
number_of DuplicateTransactions = 3
number_of BadBlockLength = 4
number_of CoinbaseMissing = 5
number_of CoinbaseMultiple = 6
number_of NoInputs = 7
number_of NoOutputs = 8
number_of OutputNegative = 9
number_of OutputTooLarge = 10
number_of OutputSumTooLarge = 11
number_of DuplicateInputs = 12
number_of CoinbaseLength = 13
number_of NullPrevout = 14
number_of TooManySigops = 15
number_of ParentNotFound = 16
number_of ParentInvalid = 17
number_of WrongBits = 18
number_of TimeTooOld = 19
number_of TimeTooNew = 20
number_of BadVersion = 21
number_of NonFinal = 22
number_of CoinbaseHeight = 23
number_of OverwritesCoin = 24
number_of InputsMissingOrSpent = 25
number_of PrematureCoinbaseSpend = 26
number_of InputsBelowOutputs = 27
number_of CoinbaseAmount = 28
number_of (ScriptRefused t i) = 29

-- as it is printed: Bitcoin Core's text, but for BadVersion's and ScriptRefused's
abbrev pub text_of : Reason → List ℕ
text_of HighHash = codes "high-hash"
text_of BadMerkleRoot = codes "bad-txnmrklroot"
text_of DuplicateTransactions = codes "bad-txns-duplicate"
text_of BadBlockLength = codes "bad-blk-length"
text_of CoinbaseMissing = codes "bad-cb-missing"
text_of CoinbaseMultiple = codes "bad-cb-multiple"
text_of NoInputs = codes "bad-txns-vin-empty"
text_of NoOutputs = codes "bad-txns-vout-empty"
text_of OutputNegative = codes "bad-txns-vout-negative"
text_of OutputTooLarge = codes "bad-txns-vout-toolarge"
text_of OutputSumTooLarge = codes "bad-txns-txouttotal-toolarge"
text_of DuplicateInputs = codes "bad-txns-inputs-duplicate"
text_of CoinbaseLength = codes "bad-cb-length"
text_of NullPrevout = codes "bad-txns-prevout-null"
text_of TooManySigops = codes "bad-blk-sigops"
text_of ParentNotFound = codes "prev-blk-not-found"
text_of ParentInvalid = codes "bad-prevblk"
text_of WrongBits = codes "bad-diffbits"
text_of TimeTooOld = codes "time-too-old"
text_of TimeTooNew = codes "time-too-new"
text_of BadVersion = codes "bad-version"
text_of NonFinal = codes "bad-txns-nonfinal"
text_of CoinbaseHeight = codes "bad-cb-height"
text_of OverwritesCoin = codes "bad-txns-BIP30"
text_of InputsMissingOrSpent = codes "bad-txns-inputs-missingorspent"
text_of PrematureCoinbaseSpend = codes "bad-txns-premature-spend-of-coinbase"
text_of InputsBelowOutputs = codes "bad-txns-in-belowout"
text_of CoinbaseAmount = codes "bad-cb-amount"
text_of (ScriptRefused t i) = codes "blk-bad-inputs " ++ decimal t ++ codes ":" ++ decimal i
